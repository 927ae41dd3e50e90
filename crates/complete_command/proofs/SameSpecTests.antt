-- Two tests of one question.
use Rattle.std.proofs.Common.{◌≡◌, ◌∙◌, ℕ, List, ◌++◌, take, Option, Some, None, IsSome, Result, Ok, Err, IfErr, refl, sym, ap, ap₂, subst}
use Rattle.std.specs.Io.KnownBytes.{Appends}
use Rattle.tn_text.specs.Watch.{watched_inner, has_failed, is_flushed}
use Rattle.tn_text.specs.declared.watched.Watched.{Watched}
use Rattle.tn_verdict.specs.SpecTestInputs.{IsAnswerTo, IsNoAnswer}
use Rattle.tn_verdict.specs.declared.spec_test_input.SpecTestInput as question
use Rattle.tn_verdict.specs.declared.spec_test_input.SpecTestFault.{SpecTestFault}
use Rattle.tn_run.specs.declared.fault.RunFault.TheVariants.{Write}
use Rattle.tn_formats.specs.declared.format.Format.{Format}
use Rattle.tn_command.specs.JobForms.{text_in_format}
use Rattle.tn_command.specs.SpecTests.{IsAnswerIn, IsHeadedAnswer, IsHeadedAnswerIn, MeetsSpecTestBy, list_head, spec_test_status_of}
use Rattle.tn_command.specs.declared.spec_test.SpecTestRunFault.{SpecTestRunFault}
use Rattle.tn_command.specs.declared.spec_test.SpecTestRunFault.TheVariants.{SpecTestInput, Run}
use Rattle.complete_code.specs.SpecTestAnswers.{IsSpecTestRefused}
use Rattle.complete_code.proofs.SpecTestAnswers.{answer_or_fault, one_reason, one_text}
use Rattle.complete_workers.specs.Ends.{EndAlike, TellAlike}
use Rattle.complete_workers.proofs.SameEnds.{appended, none_some, not_told, the_same}
use Rattle.complete_workers.proofs.SameRuns.{seen_as}
use Rattle.complete_command.specs.SpecTests.{AreTestedAlike, IsOfInput}

-- two answers that end alike are one
as_one : {E : Type 0} (r s : Result (Unit {0}) E) → EndAlike r s → r ≡ s
as_one (Ok u) (Ok v) same = refl
as_one (Ok u) (Err d) same = none_some d same
as_one (Err d) (Ok v) same = none_some d (sym same)
as_one (Err d) (Err f) same = ap Err (the_same d f same)

pub same_spec_test_status : {A : Type 0} (n m : ℕ) (r s : Result (Unit {0}) (SpecTestRunFault A)) → n ≡ spec_test_status_of r → m ≡ spec_test_status_of s → EndAlike r s → n ≡ m
same_spec_test_status n m r s h i same = h ∙ ap spec_test_status_of (as_one r s same) ∙ sym i

-- two writers that told the same, and gained the same
same_gain : (old old' new new' : Option (List ℕ)) (x y : List ℕ) → old ≡ old' → IsSome old → x ≡ y → Appends old new x → Appends old' new' y → new ≡ new'
same_gain None old' new new' x y e some same h i = not_told some
same_gain (Some was) old' new new' x y e some same h i =
    appended was x new h ∙ ap (λ z. Some (was ++ z)) same ∙ sym (appended was y new' (subst (λ o. Appends o new' y) (sym e) i))

-- a question has one such text, which it has only where it has an answer
pub record IsOneText (q : question.SpecTestInput) (IsAnswer : List ℕ → Type 0) : Type 0 where
  pub one : (x y : List ℕ) → IsAnswer x → IsAnswer y → x ≡ y
  pub answered : (x : List ℕ) → IsAnswer x → (y : List ℕ) × IsAnswerTo q y

pub answer_is_one : (q : question.SpecTestInput) → IsOneText q (IsAnswerTo q)
answer_is_one q = record { one = one_text q; answered = λ x h. (x, h) }

pub answer_in_is_one : (q : question.SpecTestInput) (format : Format) → IsOneText q (IsAnswerIn format q)
answer_in_is_one q format = record {
  one = λ x y h i. h.text_is ∙ ap (text_in_format (Some format)) (one_text q h.plain i.plain h.is_plain i.is_plain) ∙ sym i.text_is;
  answered = λ x h. (h.plain, h.is_plain);
}

-- a question has one answer after its list
one_headed : (q : question.SpecTestInput) (x y : List ℕ) → IsHeadedAnswer q x → IsHeadedAnswer q y → x ≡ y
one_headed q x y h i = h.2 ∙ ap (λ answer. list_head q.list.now ++ answer) (one_text q h.0 i.0 h.1 i.1) ∙ sym i.2

pub headed_is_one : (q : question.SpecTestInput) (format : Option Format) → IsOneText q (IsHeadedAnswerIn format q)
headed_is_one q format = record {
  one = λ x y h i. h.text_is ∙ ap (text_in_format format) (one_headed q h.plain i.plain h.is_plain i.is_plain) ∙ sym i.text_is;
  answered = λ x h. (h.is_plain.0, h.is_plain.1);
}

module _ {A W : Type 0} (q : question.SpecTestInput) (IsAnswer : List ℕ → Type 0) (are : IsOneText q IsAnswer) (gained : W → Option (List ℕ)) (old new old' new' : Watched W) where
  abbrev First : Result (Unit {0}) (SpecTestRunFault A) → Type 0
  First r = MeetsSpecTestBy IsAnswer q gained old new r

  abbrev Second : Result (Unit {0}) (SpecTestRunFault A) → Type 0
  Second r = MeetsSpecTestBy IsAnswer q gained old' new' r

  -- a text and a fault of the question are there only where memory was refused
  text_or_fault : (x : List ℕ) (f : SpecTestFault A) → IsAnswer x → IsNoAnswer q f → IsSpecTestRefused f
  text_or_fault x f h i = let answer = are.answered x h in answer_or_fault q answer.0 f answer.1 i

  pub tried_alike : (r s : Result (Unit {0}) (SpecTestRunFault A)) → First r → Second s → AreTestedAlike r s
  tried_alike (Ok u) (Ok v) h i = tt
  tried_alike (Ok u) (Err (SpecTestInput f)) h i = text_or_fault h.written.0 f h.written.1 i.fault.0
  tried_alike (Ok u) (Err (Run f)) h i = tt
  tried_alike (Err (SpecTestInput e)) (Ok v) h i = text_or_fault i.written.0 e i.written.1 h.fault.0
  tried_alike (Err (SpecTestInput e)) (Err (SpecTestInput f)) h i = one_reason q e f h.fault.0 i.fault.0
  tried_alike (Err (SpecTestInput e)) (Err (Run f)) h i = text_or_fault i.fault.1 e i.fault.2 h.fault.0
  tried_alike (Err (Run e)) (Ok v) h i = tt
  tried_alike (Err (Run e)) (Err (SpecTestInput f)) h i = text_or_fault h.fault.1 f h.fault.2 i.fault.0
  tried_alike (Err (Run e)) (Err (Run f)) h i = tt

  second_as : (r s : Result (Unit {0}) (SpecTestRunFault A)) → EndAlike r s → Second s → Second r
  second_as r s same i = subst Second (sym (as_one r s same)) i

  -- ---- of one answer

  gain_of : (r : Result (Unit {0}) (SpecTestRunFault A)) → TellAlike gained old old' → IsSome (gained (watched_inner old)) → First r → Second r → TellAlike gained new new'
  gain_of (Ok u) e some h i = same_gain _ _ _ _ _ _ e some (are.one h.written.0 i.written.0 h.written.1 i.written.1) h.written.2 i.written.2
  gain_of (Err (SpecTestInput f)) e some h i = seen_as gained new old h.fault.1 ∙ e ∙ sym (seen_as gained new' old' i.fault.1)
  gain_of (Err (Run f)) e some h i =
      let (n, is, front) = h.fault.3 in
      let (m, so, other) = i.fault.3 in
      let both : Write n ≡ Write m = sym is ∙ so in
      let same : n ≡ m = cc in
      same_gain _ _ _ _ _ _ e some (ap₂ take same (are.one h.fault.1 i.fault.1 h.fault.2 i.fault.2)) front.gained other.gained

  failed_of : (r : Result (Unit {0}) (SpecTestRunFault A)) → has_failed old ≡ has_failed old' → First r → Second r → has_failed new ≡ has_failed new'
  failed_of (Ok u) e h i = h.unfailed ∙ e ∙ sym i.unfailed
  failed_of (Err (SpecTestInput f)) e h i = ap has_failed h.fault.1 ∙ e ∙ sym (ap has_failed i.fault.1)
  failed_of (Err (Run f)) e h i = h.fault.0 ∙ sym i.fault.0

  flushed_of : (r : Result (Unit {0}) (SpecTestRunFault A)) → is_flushed old ≡ is_flushed old' → First r → Second r → IfErr r IsOfInput → is_flushed new ≡ is_flushed new'
  flushed_of (Ok u) e h i none = h.flushed ∙ sym i.flushed
  flushed_of (Err (SpecTestInput f)) e h i none = ap is_flushed h.fault.1 ∙ e ∙ sym (ap is_flushed i.fault.1)
  flushed_of (Err (Run f)) e h i none = absurd none

  -- ---- of two that end alike

  pub same_spec_test_gain : (r s : Result (Unit {0}) (SpecTestRunFault A)) → TellAlike gained old old' → First r → Second s → IsSome (gained (watched_inner old)) → EndAlike r s → TellAlike gained new new'
  same_spec_test_gain r s e h i some same = gain_of r e some h (second_as r s same i)

  pub same_spec_test_failed : (r s : Result (Unit {0}) (SpecTestRunFault A)) → has_failed old ≡ has_failed old' → First r → Second s → EndAlike r s → has_failed new ≡ has_failed new'
  same_spec_test_failed r s e h i same = failed_of r e h (second_as r s same i)

  pub same_spec_test_flushed : (r s : Result (Unit {0}) (SpecTestRunFault A)) → is_flushed old ≡ is_flushed old' → First r → Second s → EndAlike r s → IfErr r IsOfInput → is_flushed new ≡ is_flushed new'
  same_spec_test_flushed r s e h i same none = flushed_of r e h (second_as r s same i) none
