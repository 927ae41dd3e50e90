-- The table of a head's variables.
use Rattle.std.proofs.Common.{◌≡◌, ◌≢◌, ℕ, ◌==◌, ◌<◌, Bool, true, false, ◌||◌, List, length, get_or, set, replicate, refl, sym, ap, ◌∙◌, ◌+◌, ◌≤◌, ◌∷◌, drop, map, subst, arith, length-set, get_or-set_same, get_or-set_other, eqb-true}
use Rattle.std.proofs.lemmas.List.{drop_more, drop_all, length-replicate, get_or-replicate}
use Rattle.def_spec.specs.Matching.{Pattern, variable, anything, only_term, in_tuple, in_list, Patterns, no_patterns, and_pattern, occurs, occurs_in_some}
use Rattle.tn_spec.specs.Variables.{IsTableOf, mark_variables, marked_all}
use Rattle.tn_spec.specs.Views.{patterns_from}

mutual
  marked_length : (p : Pattern) (bs : List Bool) → length (mark_variables p bs) ≡ length bs
  marked_length (variable n) bs = length-set bs n true
  marked_length anything bs = refl
  marked_length (only_term t) bs = refl
  marked_length (in_tuple ps) bs = all_length ps bs
  marked_length (in_list ps) bs = all_length ps bs

  all_length : (ps : Patterns) (bs : List Bool) → length (marked_all ps bs) ≡ length bs
  all_length no_patterns bs = refl
  all_length (and_pattern p ps) bs = all_length ps (mark_variables p bs) ∙ marked_length p bs

or_assoc : (a b c : Bool) → (a || (b || c)) ≡ ((b || a) || c)
or_assoc true true c = refl
or_assoc true false c = refl
or_assoc false true c = refl
or_assoc false false c = refl

differs : (n m : ℕ) → (n == m) ≡ false → n ≢ m
differs n m e same = subst (λ x. (n == x) ≡ false → ⊥) same (λ f. absurd_self n f) e
  where
    absurd_self : (k : ℕ) → (k == k) ≡ false → ⊥
    absurd_self k f = grind (arith, f)

one_marked : (m n : ℕ) (bs : List Bool) → n < length bs → (b : Bool) → (n == m) ≡ b → get_or (set bs m true) n false ≡ (b || get_or bs n false)
one_marked m n bs h true e = subst (λ x. get_or (set bs x true) n false ≡ true) (eqb-true n m e) (get_or-set_same bs n true false h)
one_marked m n bs h false e = get_or-set_other bs m n true false (differs n m e)

mutual
  marked_at : (p : Pattern) (bs : List Bool) (n : ℕ) → n < length bs → get_or (mark_variables p bs) n false ≡ (occurs n p || get_or bs n false)
  marked_at (variable m) bs n h = one_marked m n bs h (n == m) refl
  marked_at anything bs n h = refl
  marked_at (only_term t) bs n h = refl
  marked_at (in_tuple ps) bs n h = all_at ps bs n h
  marked_at (in_list ps) bs n h = all_at ps bs n h

  all_at : (ps : Patterns) (bs : List Bool) (n : ℕ) → n < length bs → get_or (marked_all ps bs) n false ≡ (occurs_in_some n ps || get_or bs n false)
  all_at no_patterns bs n h = refl
  all_at (and_pattern p ps) bs n h =
      all_at ps (mark_variables p bs) n (subst (λ k. n < k) (sym (marked_length p bs)) h)
      ∙ ap (λ b. occurs_in_some n ps || b) (marked_at p bs n h)
      ∙ or_assoc (occurs_in_some n ps) (occurs n p) (get_or bs n false)

or_none : (b : Bool) → (b || false) ≡ b
or_none true = refl
or_none false = refl

-- a table with nothing marked, marked for the head
pub table_right : (p : Pattern) (table empty : List Bool) (k : ℕ) → k ≡ 1000 → empty ≡ replicate k false → table ≡ mark_variables p empty → IsTableOf p table
table_right p table empty k size fresh made n small =
    let within : n < k = omega (arith, small, size) in
    let long : n < length empty = subst (λ xs. n < length xs) (sym fresh) (subst (λ j. n < j) (sym (length-replicate k false)) within) in
    ap (λ xs. get_or xs n false) made
    ∙ marked_at p empty n long
    ∙ ap (λ b. occurs n p || b) (ap (λ xs. get_or xs n false) fresh ∙ get_or-replicate k n false false within)
    ∙ or_none (occurs n p)

-- ---- the loop that marks each of some patterns

module _ {X : Type 0} (f : X → Pattern) (xs : List X) (i : ℕ) (table whole : List Bool) where
  pub marked_more : (x : X) (new : List Bool) → i < length xs → x ≡ get_or xs i x → new ≡ mark_variables (f x) table
      → marked_all (patterns_from (map f (drop i xs))) table ≡ whole → marked_all (patterns_from (map f (drop (i + 1) xs))) new ≡ whole
  marked_more x new below is made so_far =
      ap (marked_all (patterns_from (map f (drop (i + 1) xs)))) made
      ∙ sym (ap (λ ys. marked_all (patterns_from (map f ys)) table) (drop_more xs i x below) ∙ ap (λ y. marked_all (patterns_from (map f (y ∷ drop (i + 1) xs))) table) (sym is))
      ∙ so_far

  pub marked_past : length xs ≤ i → marked_all (patterns_from (map f (drop i xs))) table ≡ whole → table ≡ whole
  marked_past past so_far = sym (ap (λ ys. marked_all (patterns_from (map f ys)) table) (drop_all i xs past)) ∙ so_far
