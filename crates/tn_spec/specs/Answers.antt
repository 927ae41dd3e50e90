-- What the code's answers tell of what is read.
use Rattle.std.specs.Prelude.{◌≡◌, List, [], ◌∷◌, Option, Some, None, MatchResult, Result, Ok, Err}
use Rattle.def_term.specs.Tree.{Tree, list, Trees}
use Rattle.def_spec.specs.Reading as reading
use Rattle.def_spec.specs.Reading.{Reads, then_read}
use Rattle.tn_spec.specs.declared.fault.SpecFault.{SpecFault}
use Rattle.tn_spec.specs.declared.fault.SpecFault.TheVariants.{Badarg, Unsupported, TooLarge, OutOfMemory}

-- the fault is what is read; want of memory tells nothing of it
abbrev pub IsFaultOf : {A Y : Type 0} → Reads Y → SpecFault A → Type 0
IsFaultOf r Badarg = r ≡ Err reading.badarg
IsFaultOf r (Unsupported s) = r ≡ Err (reading.unsupported s)
IsFaultOf r TooLarge = ⊥
IsFaultOf r OutOfMemory = Unit {0}

-- the answer, as it is seen, is what is read
abbrev pub IsRead : {A X Y : Type 0} → (X → Y) → Reads Y → Result X (SpecFault A) → Type 0
IsRead view r result = MatchResult result (λ x. r ≡ Ok (view x)) (λ e. IsFaultOf r e)

-- what each of the terms is read as, or the first fault
abbrev pub each_read : {Z : Type 0} → (Tree → Reads Z) → List Tree → Reads (List Z)
each_read f [] = Ok []
each_read f (t ∷ ts) = then_read (f t) (λ z. then_read (each_read f ts) (λ zs. Ok (z ∷ zs)))

-- the elements of a list
abbrev pub list_elements : Tree → Option Trees
list_elements (list ts) = Some ts
list_elements _ = None
