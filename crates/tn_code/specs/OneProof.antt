-- That code is valid has at most one proof, and so has that it sets no register past another: for the fields of a code.
use Rattle.std.specs.Prelude.{◌≡◌, ℕ, zero, suc, ◌≤◌, List, [], ◌∷◌, true, Option, Some, None, slice_get}
use Rattle.std.specs.Coded.{×_prop, Unit-prop, le_prop}
use mathlib.Core.Bool.{Bool-set}
use Rattle.def_machine.specs.Instructions.{Instruction}
use Rattle.def_machine.specs.Validity.{Each, Way, ways, leads_to, reads, has_its_number, LeadsForward, IsInPlace, RegisterSet, no_register, with_registers, HasInstruction, ReadsSet, Valid}
use Rattle.tn_code.specs.Rooms.{SetsUpTo, AllSetUpTo}
use Rattle.tn_code.specs.Views.{instructions_of}
use Rattle.tn_code.specs.declared.instr.Instr.{Instr}

each-prop : {X : Type 0} (P : X → Type 0) → ((x : X) → IsProp (P x)) → (xs : List X) → IsProp (Each P xs)
each-prop P one [] = Unit-prop
each-prop P one (x ∷ xs) = ×_prop (one x) (each-prop P one xs)

standing-prop : (P : Instruction → Type 0) → ((i : Instruction) → IsProp (P i)) → (x : Option Instruction) → IsProp (HasInstruction P x)
standing-prop P one None = λ x y. absurd x
standing-prop P one (Some i) = one i

forward-prop : (code : List Instruction) (p : ℕ) (w : Way) → IsProp (LeadsForward code p w)
forward-prop code p w = λ x y i. record { forward = le_prop x.forward y.forward i; inside = le_prop x.inside y.inside i }

in_place-prop : (code : List Instruction) (p : ℕ) (j : Instruction) → IsProp (IsInPlace code p j)
in_place-prop code p j = λ x y i. record {
  number = Bool-set (has_its_number j) true x.number y.number i;
  forward = each-prop (LeadsForward code p) (forward-prop code p) (ways j) x.forward y.forward i;
}

reads-prop : (code : List Instruction) (n p : ℕ) (s : RegisterSet) → IsProp (ReadsSet code n p s)
reads-prop code zero p s = Unit-prop
reads-prop code (suc n) p s =
    standing-prop (λ i. Each (λ r. s r ≡ true) (reads i) × Each (λ w. ReadsSet code n (leads_to p w) (with_registers w.sets s)) (ways i))
    (λ i. ×_prop (each-prop (λ r. s r ≡ true) (λ r. Bool-set (s r) true) (reads i))
    (each-prop (λ w. ReadsSet code n (leads_to p w) (with_registers w.sets s)) (λ w. reads-prop code n (leads_to p w) (with_registers w.sets s)) (ways i)))
    (slice_get code p)

pub valid-prop : (code : List Instruction) → IsProp (Valid code)
valid-prop code = λ x y i. record {
  nonempty = le_prop x.nonempty y.nonempty i;
  in_place = λ p j e. in_place-prop code p j (x.in_place p j e) (y.in_place p j e) i;
  reads_set = λ n. reads-prop code n 0 no_register (x.reads_set n) (y.reads_set n) i;
}

set-prop : (n : ℕ) (code : List Instruction) → IsProp (AllSetUpTo n code)
set-prop n code = each-prop (SetsUpTo n) (λ i. each-prop (λ w. Each (λ r. r ≤ n) w.sets) (λ w. each-prop (λ r. r ≤ n) (λ r. le_prop) w.sets) (ways i)) code

pub room-prop : {A : Type 0} (n : ℕ) (is : List (Instr A)) → IsProp (AllSetUpTo n (instructions_of is))
room-prop n is = set-prop n (instructions_of is)
