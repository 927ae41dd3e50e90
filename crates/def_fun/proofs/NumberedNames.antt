-- The numbers of a head's variables are their places, and each place is a number.
use Rattle.std.proofs.Common.{◌≡◌, ◌≢◌, ◌⊎◌, ℕ, ◌+◌, List, [], ◌∷◌, ◌++◌, length, Bool, true, false, not, ◌&&◌, ◌||◌, cond, Option, Some, None, refl, ap, sym, ◌∙◌, subst, arith, inl, inr}
use Rattle.std.specs.Str.{bytes_eq}
use Rattle.std.proofs.lemmas.Bool.{and_parts, and_from, or_cases, not-true, cond-true, cond-false, both_ways, false_from_ne_true}
use Rattle.std.proofs.lemmas.Slice.Eq.{bytes_eq-Decides}
use Rattle.def_term.specs.Names.{Name}
use Rattle.def_term.specs.Text.{is_among}
use Rattle.def_fun.specs.Trees.{FunHead}
use Rattle.def_fun.specs.Variables.{ANY, names_of, name_of_whole, matched_part, variables_in, is_of_whole, with_name, with_names, number_among, IsNameOfNumber, the_whole, anything_there, of_no_head, kind_of_number, variable_kind}

pub same_name : (n s : Name) → bytes_eq n s ≡ true → n ≡ s
same_name n s e = (bytes_eq-Decides n s).0 e

pub equal_names : (n s : Name) → n ≡ s → bytes_eq n s ≡ true
equal_names n s e = (bytes_eq-Decides n s).1 e

pub other_name : (n s : Name) → bytes_eq s n ≡ false → bytes_eq n s ≡ false
other_name n s f = false_from_ne_true (bytes_eq n s) (λ e. both_ways (bytes_eq s n) f (equal_names s n (sym (same_name n s e))))

none_of_two : (a b : Bool) → (a || b) ≡ false → (a ≡ false) × (b ≡ false)
none_of_two true b h = absurd (cc)
none_of_two false b h = (refl, h)

or_true : (a b : Bool) → b ≡ true → (a || b) ≡ true
or_true true b h = refl
or_true false b h = h

-- ---- a number is a place

record IsPlaced (k : ℕ) (ns : List Name) (s : Name) (j : ℕ) : Type 0 where
  pub earlier : List Name
  pub later : List Name
  pub split : ns ≡ earlier ++ s ∷ later
  pub number : j ≡ length earlier + k

some_same : (k j : ℕ) → Some k ≡ Some j → j ≡ k
some_same k j h = cc

placed_by : (k : ℕ) (n : Name) (ns : List Name) (s : Name) (j : ℕ) (b : Bool) → bytes_eq n s ≡ b → cond b (Some k) (number_among (k + 1) ns s) ≡ Some j
    → (number_among (k + 1) ns s ≡ Some j → IsPlaced (k + 1) ns s j) → IsPlaced k (n ∷ ns) s j
placed_by k n ns s j true e h later =
    let same = some_same k j h in
    record { earlier = []; later = ns; split = ap (λ x. x ∷ ns) (same_name n s e); number = omega (arith, same) }
placed_by k n ns s j false e h later =
    let r = later h in
    let number = r.number in
    record { earlier = n ∷ r.earlier; later = r.later; split = ap (λ xs. n ∷ xs) r.split; number = omega (arith, number) }

placed : (k : ℕ) (ns : List Name) (s : Name) (j : ℕ) → number_among k ns s ≡ Some j → IsPlaced k ns s j
placed k [] s j h = absurd (cc)
placed k (n ∷ ns) s j h = placed_by k n ns s j (bytes_eq n s) refl h (λ g. placed (k + 1) ns s j g)

pub numbers_are_places : (h : FunHead) (s : Name) (k : ℕ) → number_among 1 (names_of h).numbers s ≡ Some k → IsNameOfNumber (names_of h).numbers s k
numbers_are_places h s k e = let p = placed 1 (names_of h).numbers s k e in record { earlier = p.earlier; later = p.later; split = p.split; number = p.number }

-- ---- no name is there twice

abbrev are_distinct : List Name → Bool
are_distinct [] = true
are_distinct (n ∷ ns) = not (is_among ns n) && are_distinct ns

-- where a name isn't among some, and isn't the last
not_among_more : (ns : List Name) (s n : Name) → is_among ns n ≡ false → bytes_eq n s ≡ false → is_among (ns ++ s ∷ []) n ≡ false
not_among_more [] s n h e = ap (λ b. b || false) e
not_among_more (m ∷ ns) s n h e =
    let parts = none_of_two (bytes_eq n m) (is_among ns n) h in
    ap (λ b. b || is_among (ns ++ s ∷ []) n) parts.0 ∙ not_among_more ns s n parts.1 e

distinct_more : (ns : List Name) (s : Name) → are_distinct ns ≡ true → is_among ns s ≡ false → are_distinct (ns ++ s ∷ []) ≡ true
distinct_more [] s h f = refl
distinct_more (n ∷ ns) s h f =
    let p = and_parts (not (is_among ns n)) (are_distinct ns) h in
    let q = none_of_two (bytes_eq s n) (is_among ns s) f in
    let alone = not_among_more ns s n (not-true (is_among ns n) p.0) (other_name n s q.0) in
    and_from (not (is_among (ns ++ s ∷ []) n)) (are_distinct (ns ++ s ∷ [])) (ap not alone) (distinct_more ns s p.1 q.1)

distinct_by : (ns : List Name) (s : Name) (w a b : Bool) → is_among ns s ≡ b → are_distinct ns ≡ true → are_distinct (cond (w || (a || b)) ns (ns ++ s ∷ [])) ≡ true
distinct_by ns s true a b e h = h
distinct_by ns s false true b e h = h
distinct_by ns s false false true e h = h
distinct_by ns s false false false e h = distinct_more ns s h e

distinct_names : (w : Option Name) (ns ss : List Name) → are_distinct ns ≡ true → are_distinct (with_names w ns ss) ≡ true
distinct_names w ns [] h = h
distinct_names w ns (s ∷ ss) h = distinct_names w (with_name w ns s) ss (distinct_by ns s (is_of_whole w s) (bytes_eq s ANY) (is_among ns s) refl h)

-- ---- a place is a number

among_after : (before : List Name) (s : Name) (after : List Name) → is_among (before ++ s ∷ after) s ≡ true
among_after [] s after = ap (λ b. b || is_among after s) (equal_names s s refl)
among_after (n ∷ before) s after = or_true (bytes_eq s n) (is_among (before ++ s ∷ after) s) (among_after before s after)

first_there : (before : List Name) (s : Name) (after : List Name) → are_distinct (before ++ s ∷ after) ≡ true → is_among before s ≡ false
first_there [] s after h = refl
first_there (n ∷ before) s after h =
    let p = and_parts (not (is_among (before ++ s ∷ after) n)) (are_distinct (before ++ s ∷ after)) h in
    let differs : bytes_eq s n ≡ false = false_from_ne_true (bytes_eq s n) (λ e. both_ways (is_among (before ++ s ∷ after) n) (not-true (is_among (before ++ s ∷ after) n) p.0) (subst (λ x. is_among (before ++ s ∷ after) x ≡ true) (same_name s n e) (among_after before s after))) in
    ap (λ b. b || is_among before s) differs ∙ first_there before s after p.1

found_there : (k : ℕ) (before : List Name) (s : Name) (after : List Name) → is_among before s ≡ false → number_among k (before ++ s ∷ after) s ≡ Some (length before + k)
found_there k [] s after h = cond-true (bytes_eq s s) (Some k) (number_among (k + 1) after s) (equal_names s s refl) ∙ (let e : k ≡ 0 + k = omega arith in ap (λ x. Some x) e)
found_there k (n ∷ before) s after h =
    let parts = none_of_two (bytes_eq s n) (is_among before s) h in
    let e : length before + (k + 1) ≡ length (n ∷ before) + k = omega arith in
    cond-false (bytes_eq n s) (Some k) (number_among (k + 1) (before ++ s ∷ after) s) (other_name n s parts.0) ∙ found_there (k + 1) before s after parts.1 ∙ ap (λ x. Some x) e

numbered_of : (ns : List Name) (s : Name) (k : ℕ) → are_distinct ns ≡ true → IsNameOfNumber ns s k → number_among 1 ns s ≡ Some k
numbered_of ns s k h p =
    let apart = subst (λ xs. are_distinct xs ≡ true) p.split h in
    ap (λ xs. number_among 1 xs s) p.split ∙ found_there 1 p.earlier s p.later (first_there p.earlier s p.later apart) ∙ ap (λ x. Some x) (sym p.number)

pub places_are_numbers : (h : FunHead) (s : Name) (k : ℕ) → IsNameOfNumber (names_of h).numbers s k → number_among 1 (names_of h).numbers s ≡ Some k
places_are_numbers h s k p = numbered_of (names_of h).numbers s k (distinct_names (name_of_whole h) [] (variables_in (matched_part h)) refl) p

-- ---- each variable of a head is bound

among_kept : (ns : List Name) (m s : Name) → is_among ns s ≡ true → is_among (ns ++ m ∷ []) s ≡ true
among_kept [] m s h = absurd (cc)
among_kept (n ∷ ns) m s h =
    elim (or_cases (bytes_eq s n) (is_among ns s) h) [
      | inl e ↦ ap (λ b. b || is_among (ns ++ m ∷ []) s) e
      | inr r ↦ or_true (bytes_eq s n) (is_among (ns ++ m ∷ []) s) (among_kept ns m s r)
    ]

kept_by : (ns : List Name) (m s : Name) (w a b : Bool) → is_among ns s ≡ true → is_among (cond (w || (a || b)) ns (ns ++ m ∷ [])) s ≡ true
kept_by ns m s true a b h = h
kept_by ns m s false true b h = h
kept_by ns m s false false true h = h
kept_by ns m s false false false h = among_kept ns m s h

kept : (w : Option Name) (ns ss : List Name) (s : Name) → is_among ns s ≡ true → is_among (with_names w ns ss) s ≡ true
kept w ns [] s h = h
kept w ns (m ∷ ss) s h = kept w (with_name w ns m) ss s (kept_by ns m s (is_of_whole w m) (bytes_eq m ANY) (is_among ns m) h)

-- a name is that of the whole, `_`, or among some
abbrev pub IsBound : Option Name → List Name → Name → Type 0
IsBound w ns s = (is_of_whole w s ≡ true) ⊎ ((bytes_eq s ANY ≡ true) ⊎ (is_among ns s ≡ true))

bound_by : (w : Option Name) (ns ss : List Name) (s : Name) (x a b : Bool) → is_of_whole w s ≡ x → bytes_eq s ANY ≡ a → is_among ns s ≡ b → IsBound w (with_names w (cond (x || (a || b)) ns (ns ++ s ∷ [])) ss) s
bound_by w ns ss s true a b e f g = inl e
bound_by w ns ss s false true b e f g = inr (inl f)
bound_by w ns ss s false false true e f g = inr (inr (kept w ns ss s g))
bound_by w ns ss s false false false e f g = inr (inr (kept w (ns ++ s ∷ []) ss s (among_after ns s [])))

pub bound : (w : Option Name) (ns ss : List Name) (s : Name) → is_among ss s ≡ true → IsBound w (with_names w ns ss) s
bound w ns [] s h = absurd (cc)
bound w ns (m ∷ ss) s h =
    elim (or_cases (bytes_eq s m) (is_among ss s) h) [
      | inl e ↦ subst (λ x. IsBound w (with_names w (with_name w ns x) ss) s) (same_name s m e) (bound_by w ns ss s (is_of_whole w s) (bytes_eq s ANY) (is_among ns s) refl refl refl)
      | inr r ↦ bound w (with_name w ns m) ss s r
    ]

number_by : (k : ℕ) (n : Name) (ns : List Name) (s : Name) (b : Bool) → bytes_eq s n ≡ b → (b || is_among ns s) ≡ true → (is_among ns s ≡ true → number_among (k + 1) ns s ≢ None) → number_among k (n ∷ ns) s ≢ None
number_by k n ns s true e h later none = let found = sym (cond-true (bytes_eq n s) (Some k) (number_among (k + 1) ns s) (equal_names n s (sym (same_name s n e)))) ∙ none in absurd (cc)
number_by k n ns s false e h later none = later h (sym (cond-false (bytes_eq n s) (Some k) (number_among (k + 1) ns s) (other_name n s e)) ∙ none)

pub has_number : (k : ℕ) (ns : List Name) (s : Name) → is_among ns s ≡ true → number_among k ns s ≢ None
has_number k [] s h = absurd (cc)
has_number k (n ∷ ns) s h = number_by k n ns s (bytes_eq s n) refl h (λ g. has_number (k + 1) ns s g)

among_by : (k : ℕ) (n : Name) (ns : List Name) (s : Name) (b : Bool) → bytes_eq s n ≡ b → (number_among (k + 1) ns s ≢ None → is_among ns s ≡ true) → number_among k (n ∷ ns) s ≢ None → (b || is_among ns s) ≡ true
among_by k n ns s true e later h = refl
among_by k n ns s false e later h = later (λ none. h (cond-false (bytes_eq n s) (Some k) (number_among (k + 1) ns s) (other_name n s e) ∙ none))

pub among_numbered : (k : ℕ) (ns : List Name) (s : Name) → number_among k ns s ≢ None → is_among ns s ≡ true
among_numbered k [] s h = absurd (h refl)
among_numbered k (n ∷ ns) s h = among_by k n ns s (bytes_eq s n) refl (λ g. among_numbered (k + 1) ns s g) h

no_number : (o : Option ℕ) → o ≢ None → kind_of_number o ≢ of_no_head
no_number None h e = h refl
no_number (Some k) h e = absurd (cc)

kind_by : (x a : Bool) (o : Option ℕ) → (x ≡ true) ⊎ ((a ≡ true) ⊎ (o ≢ None)) → cond x the_whole (cond a anything_there (kind_of_number o)) ≢ of_no_head
kind_by true a o h e = absurd (cc)
kind_by false true o h e = absurd (cc)
kind_by false false o (inl h) e = absurd (cc)
kind_by false false o (inr (inl h)) e = absurd (cc)
kind_by false false o (inr (inr h)) e = no_number o h e

pub kinds : (w : Option Name) (ns : List Name) (s : Name) → IsBound w ns s → (is_of_whole w s ≡ true) ⊎ ((bytes_eq s ANY ≡ true) ⊎ (number_among 1 ns s ≢ None))
kinds w ns s (inl e) = inl e
kinds w ns s (inr (inl e)) = inr (inl e)
kinds w ns s (inr (inr e)) = inr (inr (has_number 1 ns s e))

pub head_binds : (h : FunHead) (s : Name) → is_among (variables_in (matched_part h)) s ≡ true → variable_kind (names_of h) s ≢ of_no_head
head_binds h s e =
    let w = name_of_whole h in
    let ss = variables_in (matched_part h) in
    kind_by (is_of_whole w s) (bytes_eq s ANY) (number_among 1 (names_of h).numbers s) (kinds w (with_names w [] ss) s (bound w [] ss s e))
