-- Two answers of the translation of funs that are alike.
use Rattle.std.specs.Prelude.{◌≡◌, ℕ, List, Option, Some, None, Result, Ok, Err}
use Rattle.tn_term.specs.Views.{tree_of}
use Rattle.tn_translation.specs.declared.answer.FunAnswer.{FunAnswer}
use Rattle.tn_translation.specs.declared.fault.FunFault.{FunFault}
use Rattle.tn_translation.specs.declared.spec.FunSpec.{FunSpec}
use Rattle.tn_translation.specs.Faults.{fun_fault_seen}
use Rattle.complete_funs.specs.Answers.{AreSameRefusals}

-- the same term and the same text, or the same refusal, unless memory ran out
abbrev pub AreSpecsAlike : {A : Type 0} → List ℕ → Result (FunSpec A) FunFault → Result (FunSpec A) FunFault → Type 0
AreSpecsAlike text (Ok s) (Ok t) = (tree_of s.term ≡ tree_of t.term) × (s.text.items ≡ t.text.items)
AreSpecsAlike text (Ok s) (Err f) = fun_fault_seen text f ≡ None
AreSpecsAlike text (Err f) (Ok s) = fun_fault_seen text f ≡ None
AreSpecsAlike text (Err f) (Err g) = AreSameRefusals (fun_fault_seen text f) (fun_fault_seen text g)

-- none, or the same refusal
abbrev pub AreRefusalsAlike : List ℕ → Option FunFault → Option FunFault → Type 0
AreRefusalsAlike text None None = Unit {0}
AreRefusalsAlike text None (Some g) = ⊥
AreRefusalsAlike text (Some f) None = ⊥
AreRefusalsAlike text (Some f) (Some g) = fun_fault_seen text f ≡ fun_fault_seen text g

-- the same text, and the same refusal
abbrev pub AreAnswersAlike : {A : Type 0} → List ℕ → FunAnswer A → FunAnswer A → Type 0
AreAnswersAlike text a b = (a.text.items ≡ b.text.items) × AreRefusalsAlike text a.refusal b.refusal
