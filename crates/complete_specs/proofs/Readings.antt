-- Two readings of one term.
use Rattle.std.proofs.Common.{◌≡◌, ◌∙◌, refl, ap, subst, sym, Result, Ok, Err}
use Rattle.def_term.specs.Tree.{Tree}
use Rattle.def_spec.specs.Reading.{Reads, spec_of}
use Rattle.tn_spec.specs.Answers.{IsFaultOf, IsRead}
use Rattle.tn_spec.specs.Readings.{IsTooLarge, IsFaultIn, IsSpecRead, FaultAgreesWithSize, AgreesWithSize}
use Rattle.tn_spec.specs.Views.{dialect_of}
use Rattle.tn_spec.specs.Wholes.{spec_seen}
use Rattle.tn_spec.specs.declared.fault.SpecFault.{SpecFault}
use Rattle.tn_spec.specs.declared.fault.SpecFault.TheVariants.{Badarg, Unsupported, TooLarge, OutOfMemory}
use Rattle.tn_spec.specs.declared.func.Dialect.{Dialect}
use Rattle.tn_spec.specs.declared.spec.Spec.{Spec}
use Rattle.complete_specs.specs.Readings.{IsSpecRefused, AreReadAlike}

-- ---- of a clause

no_fault : {A Y : Type 0} (r : Reads Y) (y : Y) (f : SpecFault A) → r ≡ Ok y → IsFaultOf r f → IsSpecRefused f
no_fault r y Badarg p q = absurd (cc)
no_fault r y (Unsupported s) p q = absurd (cc)
no_fault r y TooLarge p q = q
no_fault r y OutOfMemory p q = tt

one_fault : {A Y : Type 0} (r : Reads Y) (e f : SpecFault A) → IsFaultOf r e → IsFaultOf r f → ¬ IsSpecRefused e → ¬ IsSpecRefused f → e ≡ f
one_fault r OutOfMemory f p q m n = absurd (m tt)
one_fault r e OutOfMemory p q m n = absurd (n tt)
one_fault r TooLarge f p q m n = absurd p
one_fault r e TooLarge p q m n = absurd q
one_fault r Badarg Badarg p q m n = refl
one_fault r Badarg (Unsupported t) p q m n = absurd (cc)
one_fault r (Unsupported s) Badarg p q m n = absurd (cc)
one_fault r (Unsupported s) (Unsupported t) p q m n = let same : s ≡ t = cc in ap Unsupported same

pub read_alike : {A X Y : Type 0} (view : X → Y) (r q : Reads Y) (a b : Result X (SpecFault A)) → q ≡ r → IsRead view r a → IsRead view q b → AreReadAlike view a b
read_alike view r q (Ok x) (Ok y) same p o = cc
read_alike view r q (Ok x) (Err f) same p o = no_fault r (view x) f p (subst (λ s. IsFaultOf s f) same o)
read_alike view r q (Err e) (Ok y) same p o = no_fault r (view y) e (sym same ∙ o) p
read_alike view r q (Err e) (Err f) same p o = one_fault r e f p (subst (λ s. IsFaultOf s f) same o)

-- ---- of a specification

no_fault_in : {A : Type 0} (d : Dialect) (t : Tree) (s : Spec A) (f : SpecFault A) → spec_of (dialect_of d) t ≡ Ok (spec_seen s) → ¬ IsTooLarge t → IsFaultIn d t f → FaultAgreesWithSize t f → IsSpecRefused f
no_fault_in d t s Badarg read small p q = absurd (cc)
no_fault_in d t s (Unsupported name) read small p q = absurd (cc)
no_fault_in d t s TooLarge read small p q = absurd (small q)
no_fault_in d t s OutOfMemory read small p q = tt

one_fault_in : {A : Type 0} (d : Dialect) (t : Tree) (e f : SpecFault A) → IsFaultIn d t e → FaultAgreesWithSize t e → IsFaultIn d t f → FaultAgreesWithSize t f → ¬ IsSpecRefused e → ¬ IsSpecRefused f → e ≡ f
one_fault_in d t OutOfMemory f p large q larger m n = absurd (m tt)
one_fault_in d t e OutOfMemory p large q larger m n = absurd (n tt)
one_fault_in d t Badarg Badarg p large q larger m n = refl
one_fault_in d t (Unsupported r) (Unsupported s) p large q larger m n = let same : r ≡ s = cc in ap Unsupported same
one_fault_in d t TooLarge TooLarge p large q larger m n = refl
one_fault_in d t Badarg (Unsupported s) p large q larger m n = absurd (cc)
one_fault_in d t (Unsupported r) Badarg p large q larger m n = absurd (cc)
one_fault_in d t TooLarge f p large q larger m n = absurd (larger large)
one_fault_in d t e TooLarge p large q larger m n = absurd (large larger)

spec_alike : {A : Type 0} (d : Dialect) (t : Tree) (a b : Result (Spec A) (SpecFault A)) → IsSpecRead d t a → AgreesWithSize t a → IsSpecRead d t b → AgreesWithSize t b → AreReadAlike spec_seen a b
spec_alike d t (Ok x) (Ok y) p large q larger = cc
spec_alike d t (Ok x) (Err f) p large q larger = no_fault_in d t x f p large q larger
spec_alike d t (Err e) (Ok y) p large q larger = no_fault_in d t y e q larger p large
spec_alike d t (Err e) (Err f) p large q larger = one_fault_in d t e f p large q larger

pub specs_alike : {A : Type 0} (d : Dialect) (t u : Tree) (a b : Result (Spec A) (SpecFault A)) → u ≡ t → IsSpecRead d t a → AgreesWithSize t a → IsSpecRead d u b → AgreesWithSize u b → AreReadAlike spec_seen a b
specs_alike d t u a b same p large q larger = spec_alike d t a b p large (subst (λ v. IsSpecRead d v b) same q) (subst (λ v. AgreesWithSize v b) same larger)
