-- Two answers what the words of a fun are.
use Rattle.std.specs.Prelude.{◌≡◌, ℕ, List, None, Result, Ok, Err}
use Rattle.tn_fun.specs.declared.fault.ReadFault.{ReadFault}
use Rattle.tn_fun_words.specs.declared.fun_words.FunWords.{FunWords}
use Rattle.complete_funs.specs.Answers.{fun_refusal_seen, AreSameRefusals}

-- the same text or the same refusal, unless memory ran out
abbrev pub AreWordsAlike : {A : Type 0} → List ℕ → Result (FunWords A) ReadFault → Result (FunWords A) ReadFault → Type 0
AreWordsAlike text (Ok v) (Ok w) = v.bytes.now ≡ w.bytes.now
AreWordsAlike text (Ok v) (Err f) = fun_refusal_seen text f ≡ None
AreWordsAlike text (Err f) (Ok w) = fun_refusal_seen text f ≡ None
AreWordsAlike text (Err f) (Err g) = AreSameRefusals (fun_refusal_seen text f) (fun_refusal_seen text g)
