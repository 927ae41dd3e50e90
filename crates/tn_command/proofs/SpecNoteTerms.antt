-- Lists that were probably meant as calls, term by term.
use Rattle.std.proofs.Common.{◌≡◌, ◌≢◌, ◌∙◌, ℕ, ◌<◌, nat_le, Bool, true, false, ◌&&◌, if◌then◌else◌, List, [], ◌∷◌, length, get_or, drop, Option, Some, None, refl, sym, ap, arith}
use Rattle.std.specs.Option.{option_map}
use Rattle.def_term.specs.Tree.{Tree, atom, tuple, list, more, count}
use Rattle.def_term.specs.Names.{Name}
use Rattle.def_spec.specs.Reading.{Callee, Row, table, found_in, is_at_most}
use Rattle.tn_term.specs.declared.term.Term.{Term}
use Rattle.tn_term.specs.Views.{tree_of, trees_of}
use Rattle.tn_spec.specs.Names.{row_of}
use Rattle.tn_spec.proofs.Tuples.{first_is}
use Rattle.tn_command.specs.SpecNotes.{CallShape, call_by_row, call_in_list, list_in_two, list_in_clause}

-- ---- a name

module _ (s : Name) (n : ℕ) where
  abbrev the_call : CallShape
  the_call = record { name = s; arguments = n }

  -- by the table's row without its name
  abbrev by_row : Option (Callee × ℕ × Option ℕ) → Option CallShape
  by_row None = None
  by_row (Some r) = if nat_le r.1 n && is_at_most r.2 n then Some the_call else None

  by_row_of : (o : Option Row) → call_by_row s n o ≡ by_row (option_map row_of o)
  by_row_of None = refl
  by_row_of (Some r) = refl

  pub no_row : (o : Option Row) → None ≡ option_map row_of o → None ≡ call_by_row s n o
  no_row o e = sym (by_row_of o ∙ ap by_row (sym e))

  module _ (o : Option Row) (r : Callee × ℕ × Option ℕ) (b : Bool) (is : Some r ≡ option_map row_of o) (tests : b ≡ (nat_le r.1 n && is_at_most r.2 n)) where
    by_test : call_by_row s n o ≡ (if b then Some the_call else None)
    by_test = by_row_of o ∙ ap by_row (sym is) ∙ ap (λ x. if x then Some the_call else None) (sym tests)

    pub row_refuses : b ≡ false → None ≡ call_by_row s n o
    row_refuses not_so = sym (by_test ∙ ap (λ x. if x then Some the_call else None) not_so)

    pub row_takes : b ≡ true → Some the_call ≡ call_by_row s n o
    row_takes so = sym (by_test ∙ ap (λ x. if x then Some the_call else None) so)

-- ---- a list

module _ {A : Type 0} (xs : List (Term A)) (x : Term A) (some : 0 < length xs) (is : x ≡ get_or xs 0 x) where
  -- of an atom and further elements
  pub of_atom : (s : Name) (n : ℕ) → tree_of x ≡ atom s → n ≡ count (trees_of (drop 1 xs)) → call_by_row s n (found_in table s) ≡ call_in_list (list (trees_of xs))
  of_atom s n e counted =
      ap (λ m. call_by_row s m (found_in table s)) counted ∙ sym (ap (λ ts. call_in_list (list ts)) (first_is xs x (atom s) some is e))

  -- of another term and further elements
  pub of_other : (t : Tree) → tree_of x ≡ t → None ≡ call_in_list (list (more t (trees_of (drop 1 xs)))) → None ≡ call_in_list (list (trees_of xs))
  of_other t e by = by ∙ sym (ap (λ ts. call_in_list (list ts)) (first_is xs x t some is e))

-- ---- a clause

pub not_three : {A : Type 0} (xs : List (Term A)) → length xs ≢ 3 → None ≡ list_in_clause (tuple (trees_of xs))
not_three [] other = refl
not_three (x ∷ []) other = refl
not_three (x ∷ y ∷ []) other = refl
not_three (x ∷ y ∷ z ∷ []) other = absurd (other refl)
not_three (x ∷ y ∷ z ∷ w ∷ ws) other = refl

pub of_three : {A : Type 0} (xs : List (Term A)) (y z : Term A) → length xs ≡ 3 → y ≡ get_or xs 1 y → z ≡ get_or xs 2 z
    → list_in_two (tree_of y) (tree_of z) ≡ list_in_clause (tuple (trees_of xs))
of_three [] y z three b c = absurd (omega arith)
of_three (p ∷ []) y z three b c = absurd (omega arith)
of_three (p ∷ q ∷ []) y z three b c = absurd (omega arith)
of_three (p ∷ q ∷ r ∷ []) y z three b c = λ i. list_in_two (tree_of (b i)) (tree_of (c i))
of_three (p ∷ q ∷ r ∷ s ∷ ss) y z three b c = absurd (omega arith)
