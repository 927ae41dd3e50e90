-- What two answers to one question have in common.
use Rattle.std.specs.Prelude.{◌≡◌, ℕ, map, Result, Ok, Err}
use Rattle.std.specs.Bool.{⊤}
use Rattle.std.specs.declared.vec.Vec.{Vec}
use Rattle.tn_term.specs.Views.{tree_of}
use Rattle.tn_text.specs.declared.fault.TextFault.{TextFault}
use Rattle.tn_text.specs.declared.fault.TextFault.TheVariants as texts
use Rattle.tn_spec.specs.declared.fault.SpecFault.{SpecFault}
use Rattle.tn_spec.specs.declared.fault.SpecFault.TheVariants as specs
use Rattle.tn_spec.specs.Wholes.{spec_seen}
use Rattle.tn_verdict.specs.SpecTestInputs.{mfas_seen}
use Rattle.tn_verdict.specs.declared.spec_test_input.SpecTestTerms.{SpecTestTerms}
use Rattle.tn_verdict.specs.declared.spec_test_input.SpecTestFault.{SpecTestFault}
use Rattle.tn_verdict.specs.declared.spec_test_input.SpecTestFault.TheVariants.{List as OfList, NoList, Caller, NoCaller, Text, Spec, OutOfMemory}

-- ---- memory was refused

abbrev pub IsRefusedText : TextFault → Type 0
IsRefusedText texts.OutOfMemory = ⊤
IsRefusedText _ = ⊥

abbrev pub IsRefusedSpec : {A : Type 0} → SpecFault A → Type 0
IsRefusedSpec specs.OutOfMemory = ⊤
IsRefusedSpec _ = ⊥

abbrev pub IsSpecTestRefused : {A : Type 0} → SpecTestFault A → Type 0
IsSpecTestRefused (OfList f) = IsRefusedText f
IsSpecTestRefused NoList = ⊥
IsSpecTestRefused (Caller f) = IsRefusedText f
IsSpecTestRefused NoCaller = ⊥
IsSpecTestRefused (Text f) = IsRefusedText f
IsSpecTestRefused (Spec n f) = IsRefusedSpec f
IsSpecTestRefused OutOfMemory = ⊤

-- ---- two answers

-- the texts are one, or both have one fault, or memory was refused
abbrev pub AreAnsweredAlike : {A : Type 0} → Result (Vec ℕ A) (SpecTestFault A) → Result (Vec ℕ A) (SpecTestFault A) → Type 0
AreAnsweredAlike (Ok v) (Ok w) = v.items ≡ w.items
AreAnsweredAlike (Ok v) (Err f) = IsSpecTestRefused f
AreAnsweredAlike (Err e) (Ok w) = IsSpecTestRefused e
AreAnsweredAlike (Err e) (Err f) = ¬ IsSpecTestRefused e → ¬ IsSpecTestRefused f → e ≡ f

-- the terms of two questions are one
pub record AreSameTerms {A : Type 0} (v w : SpecTestTerms A) : Type 0 where
  pub same_list : map tree_of v.list.items ≡ map tree_of w.list.items
  pub same_caller : mfas_seen v.caller ≡ mfas_seen w.caller
  pub same_spec : spec_seen v.spec ≡ spec_seen w.spec

-- the same of the terms of a question
abbrev pub AreTermsAlike : {A : Type 0} → Result (SpecTestTerms A) (SpecTestFault A) → Result (SpecTestTerms A) (SpecTestFault A) → Type 0
AreTermsAlike (Ok v) (Ok w) = AreSameTerms v w
AreTermsAlike (Ok v) (Err f) = IsSpecTestRefused f
AreTermsAlike (Err e) (Ok w) = IsSpecTestRefused e
AreTermsAlike (Err e) (Err f) = ¬ IsSpecTestRefused e → ¬ IsSpecTestRefused f → e ≡ f

-- the same of two answers why a text spells no specification
abbrev pub AreToldAlike : {A : Type 0} → Result (Vec ℕ A) TextFault → Result (Vec ℕ A) TextFault → Type 0
AreToldAlike (Ok v) (Ok w) = v.items ≡ w.items
AreToldAlike (Ok v) (Err f) = IsRefusedText f
AreToldAlike (Err e) (Ok w) = IsRefusedText e
AreToldAlike (Err e) (Err f) = ¬ IsRefusedText e → ¬ IsRefusedText f → e ≡ f
