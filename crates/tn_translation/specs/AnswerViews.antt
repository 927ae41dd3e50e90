-- The answer of a text that is refused.
use Rattle.std.specs.Prelude.{◌≡◌, ℕ, List, [], ◌∷◌, ◌++◌, Option, Some, None, Ok, Err}
use Rattle.def_term.specs.Tree.{Tree}
use Rattle.def_fun.specs.Refusals.{FunRefusal, OrRefusal, fun_refusal_line}
use Rattle.tn_translation.specs.declared.fault.FunFault.{FunFault}
use Rattle.tn_translation.specs.declared.answer.FunAnswer.{FunAnswer}
use Rattle.tn_translation.specs.Faults.{fun_fault_seen}

-- the line of the refusal, with a line feed
pub record IsRefusalAnswer {A : Type 0} (text : List ℕ) (f : FunFault) (a : FunAnswer A) : Type 0 where
  pub refused : a.refusal ≡ Some f
  pub refusal : FunRefusal
  pub seen : fun_fault_seen text f ≡ Some refusal
  pub line : a.text.items ≡ fun_refusal_line refusal ++ 10 ∷ []

-- there is none where the text has a specification, else it is that of the text
abbrev pub RefusalIs : List ℕ → Option FunFault → OrRefusal Tree → Type 0
RefusalIs text None r = (t : Tree) × (r ≡ Ok t)
RefusalIs text (Some f) r = (x : FunRefusal) × (fun_fault_seen text f ≡ Some x) × (r ≡ Err x)
