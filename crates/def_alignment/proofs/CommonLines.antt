-- The common lines of an alignment are a longest common subsequence: each common subsequence is of some steps.
use Rattle.std.proofs.Common.{◌≡◌, ◌∙◌, sym, ap, ℕ, ◌≤◌, inl, inr, suc, List, [], ◌∷◌, length, refl, arith}
use Rattle.def_alignment.specs.Alignments.{LineStep, in_both, in_first, in_second, Aligns, common_count}
use Rattle.def_alignment.specs.AlignmentLaws.{IsSubsequence, CommonLinesAreLongest, common_lines}

-- steps that go through both lists and have so many lines of both
record Goes (n : ℕ) (first second : List (List ℕ)) : Type 0 where
  steps : List LineStep
  through : Aligns steps first second
  count : common_count steps ≡ n

skip_first : (n : ℕ) (x : List ℕ) (xs ys : List (List ℕ)) → Goes n xs ys → Goes n (x ∷ xs) ys
skip_first n x xs ys g = record { steps = in_first ∷ g.steps; through = g.through; count = g.count }

skip_second : (n : ℕ) (y : List ℕ) (xs ys : List (List ℕ)) → Goes n xs ys → Goes n xs (y ∷ ys)
skip_second n y [] ys g = record { steps = in_second ∷ g.steps; through = g.through; count = g.count }
skip_second n y (x ∷ xs) ys g = record { steps = in_second ∷ g.steps; through = g.through; count = g.count }

take_both : (n : ℕ) (x y : List ℕ) (xs ys : List (List ℕ)) → x ≡ y → Goes n xs ys → Goes (suc n) (x ∷ xs) (y ∷ ys)
take_both n x y xs ys e g = record { steps = in_both ∷ g.steps; through = (e, g.through); count = ap suc g.count }

-- with nothing in common
apart_second : (ys : List (List ℕ)) → Goes 0 [] ys
apart_second [] = record { steps = []; through = (refl, refl); count = refl }
apart_second (y ∷ ys) = skip_second 0 y [] ys (apart_second ys)

apart : (xs ys : List (List ℕ)) → Goes 0 xs ys
apart [] ys = apart_second ys
apart (x ∷ xs) ys = skip_first 0 x xs ys (apart xs ys)

-- where the first list's part is known to begin with the subsequence's first line
meets : (z x : List ℕ) (zs xs : List (List ℕ)) → z ≡ x → ((ys : List (List ℕ)) → IsSubsequence zs ys → Goes (length zs) xs ys)
    → (ys : List (List ℕ)) → IsSubsequence (z ∷ zs) ys → Goes (suc (length zs)) (x ∷ xs) ys
meets z x zs xs e rest [] h = absurd h
meets z x zs xs e rest (y ∷ ys) (inl h) = take_both (length zs) x y xs ys (sym e ∙ h.0) (rest ys h.1)
meets z x zs xs e rest (y ∷ ys) (inr h) = skip_second (suc (length zs)) y (x ∷ xs) ys (meets z x zs xs e rest ys h)

goes : (zs xs : List (List ℕ)) → IsSubsequence zs xs → (ys : List (List ℕ)) → IsSubsequence zs ys → Goes (length zs) xs ys
goes [] xs h ys k = apart xs ys
goes (z ∷ zs) [] h ys k = absurd h
goes (z ∷ zs) (x ∷ xs) (inl h) ys k = meets z x zs xs h.0 (goes zs xs h.1) ys k
goes (z ∷ zs) (x ∷ xs) (inr h) ys k = skip_first (suc (length zs)) x xs ys (goes (z ∷ zs) xs h ys k)

-- a subsequence of less is one of more
of_more : (zs : List (List ℕ)) (x : List ℕ) (xs : List (List ℕ)) → IsSubsequence zs xs → IsSubsequence zs (x ∷ xs)
of_more [] x xs h = tt
of_more (z ∷ zs) x xs h = inr h

of_first : (s : List LineStep) (xs ys : List (List ℕ)) → Aligns s xs ys → IsSubsequence (common_lines s xs) xs
of_first [] xs ys h = tt
of_first (in_both ∷ s) [] ys h = tt
of_first (in_both ∷ s) (x ∷ xs) [] h = absurd h
of_first (in_both ∷ s) (x ∷ xs) (y ∷ ys) h = inl (refl, of_first s xs ys h.1)
of_first (in_first ∷ s) [] ys h = tt
of_first (in_first ∷ s) (x ∷ xs) ys h = of_more (common_lines s xs) x xs (of_first s xs ys h)
of_first (in_second ∷ s) xs [] h = absurd h
of_first (in_second ∷ s) xs (y ∷ ys) h = of_first s xs ys h

of_second : (s : List LineStep) (xs ys : List (List ℕ)) → Aligns s xs ys → IsSubsequence (common_lines s xs) ys
of_second [] xs ys h = tt
of_second (in_both ∷ s) [] ys h = absurd h
of_second (in_both ∷ s) (x ∷ xs) [] h = absurd h
of_second (in_both ∷ s) (x ∷ xs) (y ∷ ys) h = inl (h.0, of_second s xs ys h.1)
of_second (in_first ∷ s) [] ys h = absurd h
of_second (in_first ∷ s) (x ∷ xs) ys h = of_second s xs ys h
of_second (in_second ∷ s) xs [] h = absurd h
of_second (in_second ∷ s) xs (y ∷ ys) h = of_more (common_lines s xs) y ys (of_second s xs ys h)

-- there are as many as steps for lines of both
counted : (s : List LineStep) (xs ys : List (List ℕ)) → Aligns s xs ys → length (common_lines s xs) ≡ common_count s
counted [] xs ys h = refl
counted (in_both ∷ s) [] ys h = absurd h
counted (in_both ∷ s) (x ∷ xs) [] h = absurd h
counted (in_both ∷ s) (x ∷ xs) (y ∷ ys) h = ap suc (counted s xs ys h.1)
counted (in_first ∷ s) [] ys h = absurd h
counted (in_first ∷ s) (x ∷ xs) ys h = counted s xs ys h
counted (in_second ∷ s) xs [] h = absurd h
counted (in_second ∷ s) xs (y ∷ ys) h = counted s xs ys h

no_longer : (n m k c : ℕ) → n ≤ m → n ≡ k → c ≡ m → k ≤ c
no_longer n m k c h e f = omega arith

pub common_are_longest : CommonLinesAreLongest
common_are_longest s xs ys a = record {
  of_first = of_first s xs ys a.goes_through;
  of_second = of_second s xs ys a.goes_through;
  longest = λ other h k.
      let g : Goes (length other) xs ys = goes other xs h ys k in
      no_longer (common_count g.steps) (common_count s) (length other) (length (common_lines s xs)) (a.greatest g.steps g.through) g.count
      (counted s xs ys a.goes_through);
}
