-- Two answers to the same forms are the same.
use Rattle.std.proofs.Common.{◌≡◌, ◌∙◌, ℕ, List, Option, Some, None, IfSome, Result, Ok, Err, sym, ap}
use Rattle.std.specs.Option.{option_map}
use Rattle.def_script.specs.Program.{Form, Program}
use Rattle.def_script.specs.Rules.{Rule, first_broken}
use Rattle.def_script.specs.Script.{program_from}
use Rattle.tn_program.specs.declared.fault.RuleFault.{RuleFault}
use Rattle.tn_program.specs.declared.parts.Program as code
use Rattle.tn_program.specs.Faults.{IsFirstRuleFault, IsProgramOf, broken_of}
use Rattle.tn_program.specs.Views.{program_of}
use Rattle.complete_scripts.specs.Agreement.{Agree, answer_of}
use Rattle.complete_scripts.proofs.Agreements.{agree_by}

-- the forms make this program, or this is the first rule that one breaks
abbrev pub ComeTo : List Form → Result Program (ℕ × Rule) → Type 0
ComeTo fs (Ok p) = (first_broken fs ≡ None) × (p ≡ program_from fs)
ComeTo fs (Err b) = first_broken fs ≡ Some b

none_some : {X : Type 0} {P : Type 0} (o : Option X) (x : X) → o ≡ None → o ≡ Some x → P
none_some o x e f = let h : None ≡ Some x = sym e ∙ f in cc

one_answer : (fs : List Form) (x y : Result Program (ℕ × Rule)) → ComeTo fs x → ComeTo fs y → x ≡ y
one_answer fs (Ok p) (Ok q) h i = ap Ok (h.1 ∙ sym i.1)
one_answer fs (Ok p) (Err b) h i = none_some (first_broken fs) b h.0 i
one_answer fs (Err b) (Ok q) h i = none_some (first_broken fs) b i.0 h
one_answer fs (Err b) (Err d) h i = let e : Some b ≡ Some d = sym h ∙ i in cc

fault_comes : (fs : List Form) (o : Option (ℕ × Rule)) → IsFirstRuleFault fs o → IfSome {T = Result Program (ℕ × Rule)} (option_map Err o) (ComeTo fs)
fault_comes fs None h = tt
fault_comes fs (Some b) h = h

come_to : {A : Type 0} (fs : List Form) (r : Result (code.Program A) RuleFault) → IsProgramOf fs r → IfSome (answer_of program_of broken_of r) (ComeTo fs)
come_to fs (Ok p) h = h
come_to fs (Err fault) h = fault_comes fs (broken_of fault) h

pub same_program : {A : Type 0} (fs : List Form) (r q : Result (code.Program A) RuleFault) → IsProgramOf fs r → IsProgramOf fs q
    → Agree (answer_of program_of broken_of r) (answer_of program_of broken_of q)
same_program fs r q h i = agree_by (ComeTo fs) (one_answer fs) _ _ (come_to fs r h) (come_to fs q i)
