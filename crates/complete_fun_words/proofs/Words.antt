-- Two answers what the words of a fun are.
use Rattle.std.proofs.Common.{◌≡◌, ◌∙◌, ℕ, List, Option, Some, None, Result, Ok, Err, MatchResult, refl, sym, ap}
use Rattle.def_fun.specs.Answers.{fun_of_text}
use Rattle.def_fun.specs.Refusals.{FunRefusal}
use Rattle.tn_fun.specs.Answers.{IsRefusedFun}
use Rattle.tn_fun.specs.declared.fault.ReadFault.{ReadFault}
use Rattle.tn_fun_words.proofs.NoRefusals.{no_refusal}
use Rattle.tn_fun_words.specs.declared.fun_words.FunWords.{FunWords}
use Rattle.complete_funs.specs.Answers.{fun_refusal_seen}
use Rattle.complete_funs.proofs.Readings.{refused_as, refused_alike}
use Rattle.complete_fun_words.specs.Words.{AreWordsAlike}

words_or_memory : {A : Type 0} (text : List ℕ) (w : FunWords A) (f : ReadFault) (o : Option FunRefusal) → fun_refusal_seen text f ≡ o → w.bytes.now ≡ text → IsRefusedFun text f (fun_of_text text) → fun_refusal_seen text f ≡ None
words_or_memory text w f None is h k = is
words_or_memory text w f (Some q) is h k = absurd (no_refusal w q (ap fun_of_text h ∙ refused_as text f (fun_of_text text) q k is))

pub words_alike : {A : Type 0} (text : List ℕ) (r s : Result (FunWords A) ReadFault) → MatchResult r (λ w. w.bytes.now ≡ text) (λ f. IsRefusedFun text f (fun_of_text text))
    → MatchResult s (λ w. w.bytes.now ≡ text) (λ f. IsRefusedFun text f (fun_of_text text)) → AreWordsAlike text r s
words_alike text (Ok v) (Ok w) h k = h ∙ sym k
words_alike text (Ok v) (Err f) h k = words_or_memory text v f (fun_refusal_seen text f) refl h k
words_alike text (Err f) (Ok w) h k = words_or_memory text w f (fun_refusal_seen text f) refl k h
words_alike text (Err f) (Err g) h k = refused_alike text f g (fun_refusal_seen text f) (fun_refusal_seen text g) refl refl h k
