-- The registers of the variables of a head: what holds of each, and which variables have one.
use Rattle.std.proofs.Common.{◌≡◌, ℕ, ◌≤◌, List, [], ◌∷◌, Option, Some, None, nat_cmp, Bool, true, false, is_some, Ordering, Less, Equal, Greater, cond, unwrap_or}
use Rattle.std.specs.Bool.{⊤}
use Rattle.std.specs.FinMap.{find, put}
use Rattle.std.specs.FinMap.Entries.{by_order}
use Rattle.std.specs.Ordering.{eq_by_cmp}
use Rattle.def_machine.specs.Instructions.{Instruction}
use Rattle.def_machine.specs.Validity.{Each}
use Rattle.def_machine.specs.Compilation.{VariableRegisters, all_registers}
use Rattle.def_machine.proofs.AcceptedPlaces.{IsSet, set_later}

module _ (P : ℕ → Type 0) where
  -- it holds of the register of each variable
  abbrev pub EachRegister : VariableRegisters → Type 0
  EachRegister [] = ⊤
  EachRegister (e ∷ es) = P e.1 × EachRegister es

  -- it holds of the register, where there is one
  abbrev pub WhereFound : Option ℕ → Type 0
  WhereFound None = ⊤
  WhereFound (Some r) = P r

  put_order : (n r : ℕ) (e : ℕ × ℕ) (es v : VariableRegisters) (o : Ordering) → P r → EachRegister (e ∷ es) → EachRegister v → EachRegister (by_order o ((n, r) ∷ e ∷ es) ((e.0, r) ∷ es) (e ∷ v))
  put_order n r e es v Less i h k = (i, h)
  put_order n r e es v Equal i h k = (i, h.1)
  put_order n r e es v Greater i h k = (h.0, k)

  pub each-put : (n r : ℕ) (v : VariableRegisters) → P r → EachRegister v → EachRegister (put nat_cmp n r v)
  each-put n r [] i h = (i, tt)
  each-put n r (e ∷ es) i h = put_order n r e es (put nat_cmp n r es) (nat_cmp n e.0) i h (each-put n r es i h.1)

  found_case : (b : Bool) (r : ℕ) (x : Option ℕ) → P r → WhereFound x → WhereFound (cond b (Some r) x)
  found_case true r x i h = i
  found_case false r x i h = h

  pub each-found : (n : ℕ) (v : VariableRegisters) → EachRegister v → WhereFound (find nat_cmp n v)
  each-found n [] h = tt
  each-found n (e ∷ es) h = found_case (eq_by_cmp nat_cmp n e.0) e.1 (find nat_cmp n es) h.0 (each-found n es h.1)

  pub each-listed : (v : VariableRegisters) → EachRegister v → Each P (all_registers v)
  each-listed [] h = tt
  each-listed (e ∷ es) h = (h.0, each-listed es h.1)

  pub of_found : (d : ℕ) (x : Option ℕ) → WhereFound x → is_some x ≡ true → P (unwrap_or x d)
  of_found d None h is = let z : false ≡ true = is in cc
  of_found d (Some r) h is = h

registers-on : (P Q : ℕ → Type 0) (v : VariableRegisters) → ((r : ℕ) → P r → Q r) → EachRegister P v → EachRegister Q v
registers-on P Q [] on h = tt
registers-on P Q (e ∷ es) on h = (on e.1 h.0, registers-on P Q es on h.1)

-- the registers that are set before a place are so before a later one, for fewer reads
pub registers_later : (left : List Instruction) (a b m l : ℕ) (v : VariableRegisters) → a ≤ b → m ≤ l → EachRegister (IsSet left a m) v → EachRegister (IsSet left b l) v
registers_later left a b m l v ab ml h = registers-on (IsSet left a m) (IsSet left b l) v (λ r s. set_later left a b m l r ab ml s) h
