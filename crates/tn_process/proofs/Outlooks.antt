-- The newest of a process's frames.
use Rattle.std.proofs.Common.{◌≡◌, ◌∙◌, ℕ, zero, suc, ◌+◌, ◌-◌, List, [], ◌∷◌, length, map, reverse, slice_get, Option, Some, None, ap, sym, arith}
use mathlib.Core.List.{reverse_aux}
use Rattle.def_script.specs.Program.{Function}
use Rattle.def_node.specs.Process.{Frame}
use Rattle.def_outlook.specs.Outlook.{upcoming_in, upcoming_of}

last_newest : {X : Type 0} (h : X → Frame) (xs : List X) (i : ℕ) (x : X) (acc : List Frame) → i + 1 ≡ length xs → slice_get xs i ≡ Some x
    → (rest : List Frame) × (reverse_aux (map h xs) acc ≡ h x ∷ rest) × (suc (length rest) ≡ length xs + length acc)
last_newest h [] i x acc e p = absurd (omega arith)
last_newest h (y ∷ []) zero x acc e p = let q : y ≡ x = (let r : Some y ≡ Some x = p in cc) in (acc, ap (λ z. h z ∷ acc) q, omega arith)
last_newest h (y ∷ []) (suc i) x acc e p = absurd (omega arith)
last_newest h (y ∷ z ∷ zs) zero x acc e p = absurd (omega arith)
last_newest h (y ∷ z ∷ zs) (suc i) x acc e p =
    let found = last_newest h (z ∷ zs) i x (h y ∷ acc) (omega arith) p in
    (found.0, found.1, (let e2 : suc (length found.0) ≡ length (z ∷ zs) + suc (length acc) = found.2 in omega (arith, e2)))

-- the newest of the frames, and how many there are
newest : {X : Type 0} (h : X → Frame) (xs : List X) (x : X) → slice_get xs (length xs - 1) ≡ Some x
    → (rest : List Frame) × (reverse (map h xs) ≡ h x ∷ rest) × (suc (length rest) ≡ length xs)
newest h [] x p = absurd (let r : None ≡ Some x = p in cc)
newest h (y ∷ ys) x p =
    let found = last_newest h (y ∷ ys) (length (y ∷ ys) - 1) x [] (omega arith) p in
    (found.0, found.1, (let e : suc (length found.0) ≡ length (y ∷ ys) + 0 = found.2 in omega (arith, e)))

-- what comes next of the newest frame
pub upcoming_newest : {X : Type 0} (h : X → Frame) (ks : List Function) (xs : List X) (x : X) (o : Option Function) → slice_get xs (length xs - 1) ≡ Some x → slice_get ks (h x).function ≡ o
    → upcoming_in (h x) (length xs) o ≡ upcoming_of ks (reverse (map h xs))
upcoming_newest h ks xs x o p there =
    let found = newest h xs x p in
    sym (ap (upcoming_of ks) found.1 ∙ ap (λ n. upcoming_in (h x) n (slice_get ks (h x).function)) found.2 ∙ ap (upcoming_in (h x) (length xs)) there)
