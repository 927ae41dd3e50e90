-- The table of names, part by part.
use Rattle.std.proofs.Common.{◌≡◌, ◌∙◌, ℕ, Bool, true, false, if◌then◌else◌, List, [], ◌∷◌, ◌++◌, Option, Some, None, refl, sym, ap}
use Rattle.std.specs.Option.{option_map}
use Rattle.std.specs.Str.{bytes_eq}
use Rattle.std.proofs.lemmas.Slice.Eq.{bytes_eq-Decides}
use Rattle.std.proofs.lemmas.Bool.Decides.{same_from_decides}
use Rattle.def_term.specs.Names.{Name}
use Rattle.def_spec.specs.Reading.{Callee, Row, table, found_in}
use Rattle.tn_spec.specs.Names.{row_of, row_in, test_rows, of_lists, integer_rows, comparisons, others, actions}

bytes_eq_sym : (a b : List ℕ) → bytes_eq a b ≡ bytes_eq b a
bytes_eq_sym a b = same_from_decides (bytes_eq a b) (bytes_eq b a) (bytes_eq-Decides a b) ((λ e. sym ((bytes_eq-Decides b a).0 e)), (λ e. (bytes_eq-Decides b a).1 (sym e)))

-- the first that is there
abbrev pub first_of : {X : Type 0} → List (Option X) → Option X
first_of [] = None
first_of (Some x ∷ os) = Some x
first_of (None ∷ os) = first_of os

pub first_here : {X : Type 0} (x : X) (o : Option X) (os : List (Option X)) → Some x ≡ o → first_of (o ∷ os) ≡ Some x
first_here x o os e = ap (λ p. first_of (p ∷ os)) (sym e)

pub first_later : {X : Type 0} (o : Option X) (os : List (Option X)) → None ≡ o → first_of (o ∷ os) ≡ first_of os
first_later o os e = ap (λ p. first_of (p ∷ os)) (sym e)

found_is : (rs : List Row) (s : Name) → option_map row_of (found_in rs s) ≡ row_in rs s
found_is [] s = refl
found_is (r ∷ rs) s = ap (λ b. option_map row_of (if b then Some r else found_in rs s)) (bytes_eq_sym r.name s) ∙ go (bytes_eq s r.name) (found_is rs s)
  where
    go : (b : Bool) → option_map row_of (found_in rs s) ≡ row_in rs s → option_map row_of (if b then Some r else found_in rs s) ≡ (if b then Some (row_of r) else row_in rs s)
    go true e = refl
    go false e = e

split : (rs qs : List Row) (s : Name) (os : List (Option (Callee × ℕ × Option ℕ))) → row_in qs s ≡ first_of os → row_in (rs ++ qs) s ≡ first_of (row_in rs s ∷ os)
split [] qs s os e = e
split (r ∷ rs) qs s os e = go (bytes_eq s r.name) (split rs qs s os e)
  where
    go : (b : Bool) → row_in (rs ++ qs) s ≡ first_of (row_in rs s ∷ os) → (if b then Some (row_of r) else row_in (rs ++ qs) s) ≡ first_of ((if b then Some (row_of r) else row_in rs s) ∷ os)
    go true h = refl
    go false h = h

pub last : {X : Type 0} (o : Option X) → first_of (o ∷ []) ≡ o
last None = refl
last (Some x) = refl

pub found_in_parts : (s : Name) → option_map row_of (found_in table s) ≡ first_of (row_in test_rows s ∷ row_in of_lists s ∷ row_in integer_rows s ∷ row_in comparisons s ∷ row_in others s ∷ row_in actions s ∷ [])
found_in_parts s =
    found_is table s
    ∙ split test_rows (of_lists ++ (integer_rows ++ (comparisons ++ (others ++ actions)))) s _
    (split of_lists (integer_rows ++ (comparisons ++ (others ++ actions))) s _
    (split integer_rows (comparisons ++ (others ++ actions)) s _
    (split comparisons (others ++ actions) s _
    (split others actions s _ (sym (last (row_in actions s)))))))
