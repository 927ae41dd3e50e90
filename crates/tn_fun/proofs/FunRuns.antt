-- The reading of a text, token by token.
use Rattle.std.proofs.Common.{◌≡◌, ℕ, ◌<◌, ◌≤◌, List, [], ◌∷◌, length, true, false, nat_le, if◌then◌else◌, Result, Ok, Err, refl, ap, sym, ◌∙◌, subst, arith}
use Rattle.std.proofs.lemmas.Bool.{le-leb}
use Rattle.std.proofs.lemmas.Bool.Decides.{nat_tests}
use Rattle.std.specs.declared.vec.Vec.{Vec}
use Rattle.def_text.specs.Faults.{FaultKind}
use Rattle.def_text.specs.Spelling.{LENGTH}
use Rattle.def_fun.specs.Scan.{fun_spans}
use Rattle.def_fun.specs.Reading.{FunState, before_fun, fun_step, after_fun_step, fun_run, fun_end, fun_finish, read_fun}
use Rattle.def_fun.specs.Refusals.{too_long}
use Rattle.def_fun.specs.Answers.{reading_refusal, read_or_refusal, fun_of_text}
use Rattle.tn_fun.specs.declared.token.Token.{Token}
use Rattle.tn_fun.specs.declared.clause.Clause.{Clause}
use Rattle.tn_fun.specs.declared.fault.ReadFault.{ReadFault}
use Rattle.tn_fun.specs.declared.fault.ReadFault.TheVariants as faults
use Rattle.tn_fun.specs.Tokens.{span_seen, spans_from}
use Rattle.tn_fun.specs.Answers.{IsRefusedFun, IsFunRead, RefusesAs, IsFaultAt, FinishesFun}

-- up to there the tokens led to that state
pub record LedTo (text : List ℕ) (at : ℕ) (s : FunState) : Type 0 where
  pub run : fun_run 64 true before_fun (fun_spans text) ≡ fun_run 64 true s (spans_from text at)

pub led_nowhere : (text : List ℕ) → LedTo text 0 before_fun
led_nowhere text = record { run = refl }

module _ (text : List ℕ) (at : ℕ) (v : Token) (s : FunState) (led : LedTo text at s) (there : spans_from text at ≡ span_seen text v ∷ spans_from text v.to) where
  one_token : (r : Result FunState FaultKind) → fun_step 64 true s (span_seen text v) ≡ r → fun_run 64 true before_fun (fun_spans text) ≡ after_fun_step 64 true r (λ z. fun_run 64 true z (spans_from text v.to)) (span_seen text v ∷ spans_from text v.to)
  one_token r is = led.run ∙ ap (fun_run 64 true s) there ∙ ap (λ q. after_fun_step 64 true q (λ z. fun_run 64 true z (spans_from text v.to)) (span_seen text v ∷ spans_from text v.to)) is

  pub led_further : (z : FunState) → fun_step 64 true s (span_seen text v) ≡ Ok z → LedTo text v.to z
  led_further z is = record { run = one_token (Ok z) is }

  refused_at : (k : FaultKind) → fun_step 64 true s (span_seen text v) ≡ Err k → length text ≤ LENGTH → fun_of_text text ≡ Err (reading_refusal (length text) k (span_seen text v ∷ spans_from text v.to))
  refused_at k is short =
      ap (λ b. if b then read_or_refusal (length text) (read_fun 64 true (fun_spans text)) else Err too_long) (le-leb (length text) LENGTH short)
      ∙ ap (λ q. read_or_refusal (length text) (fun_finish q)) (one_token (Err k) is)

  pub refuses : (f : ReadFault) → length text ≤ LENGTH → IsFaultAt text f v (fun_step 64 true s (span_seen text v)) → IsRefusedFun text f (fun_of_text text)
  refuses faults.OutOfMemory short h = tt
  refuses faults.TooLong short h = subst (IsRefusedFun text faults.TooLong) (sym (refused_at h.0 h.1 short)) (h.2 (spans_from text v.to))
  refuses (faults.Token from) short h = subst (IsRefusedFun text (faults.Token from)) (sym (refused_at h.0 h.1 short)) (h.2 (spans_from text v.to))
  refuses (faults.NoSuch w) short h = subst (IsRefusedFun text (faults.NoSuch w)) (sym (refused_at h.0 h.1 short)) (h.2 (spans_from text v.to))
  refuses (faults.TooDeep from) short h = subst (IsRefusedFun text (faults.TooDeep from)) (sym (refused_at h.0 h.1 short)) (h.2 (spans_from text v.to))
  refuses (faults.TooLarge from) short h = subst (IsRefusedFun text (faults.TooLarge from)) (sym (refused_at h.0 h.1 short)) (h.2 (spans_from text v.to))

module _ (text : List ℕ) (at : ℕ) (s : FunState) (led : LedTo text at s) (over : spans_from text at ≡ []) (short : length text ≤ LENGTH) where
  ended_run : fun_of_text text ≡ read_or_refusal (length text) (fun_end s)
  ended_run =
      ap (λ b. if b then read_or_refusal (length text) (read_fun 64 true (fun_spans text)) else Err too_long) (le-leb (length text) LENGTH short)
      ∙ ap (λ q. read_or_refusal (length text) (fun_finish q)) (led.run ∙ ap (fun_run 64 true s) over)

  pub reads : {A : Type 0} (r : Result (Vec (Clause A) A) ReadFault) → FinishesFun text r (length text) (fun_end s) → IsFunRead text r
  reads (Ok v) h = ended_run ∙ ap (read_or_refusal (length text)) h
  reads (Err f) h = subst (λ g. IsRefusedFun text g (fun_of_text text)) (sym h.0) (ended_run ∙ ap (read_or_refusal (length text)) h.1)

pub too_long_text : (text : List ℕ) → LENGTH < length text → fun_of_text text ≡ Err too_long
too_long_text text long = let no : nat_le (length text) LENGTH ≡ false = grind (arith, nat_tests) in ap (λ b. if b then read_or_refusal (length text) (read_fun 64 true (fun_spans text)) else Err too_long) no

-- the refusal of a step
pub fault_by : {S : Type 0} (text : List ℕ) (f : ReadFault) (v : Token) (r : Result S FaultKind) (k : FaultKind) → r ≡ Err k → RefusesAs text f v k → IsFaultAt text f v r
fault_by text faults.TooLong v r k is h = (k, is, h)
fault_by text (faults.Token at) v r k is h = (k, is, h)
fault_by text (faults.NoSuch w) v r k is h = (k, is, h)
fault_by text (faults.TooDeep at) v r k is h = (k, is, h)
fault_by text (faults.TooLarge at) v r k is h = (k, is, h)
fault_by text faults.OutOfMemory v r k is h = tt
