-- What two readings of one term have in common.
use Rattle.std.specs.Prelude.{◌≡◌, Result, Ok, Err}
use Rattle.std.specs.Bool.{⊤}
use Rattle.tn_spec.specs.declared.fault.SpecFault.{SpecFault}
use Rattle.tn_spec.specs.declared.fault.SpecFault.TheVariants.{OutOfMemory}

-- memory was refused
abbrev pub IsSpecRefused : {A : Type 0} → SpecFault A → Type 0
IsSpecRefused OutOfMemory = ⊤
IsSpecRefused _ = ⊥

-- what is read is seen alike, or both have one fault, or memory was refused
abbrev pub AreReadAlike : {A X Y : Type 0} → (X → Y) → Result X (SpecFault A) → Result X (SpecFault A) → Type 0
AreReadAlike view (Ok x) (Ok y) = view x ≡ view y
AreReadAlike view (Ok x) (Err f) = IsSpecRefused f
AreReadAlike view (Err e) (Ok y) = IsSpecRefused e
AreReadAlike view (Err e) (Err f) = ¬ IsSpecRefused e → ¬ IsSpecRefused f → e ≡ f
