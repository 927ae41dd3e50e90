-- The steps through two lists by the table.
use Rattle.std.proofs.Common.{◌≡◌, ◌≢◌, ◌∙◌, sym, ap, ap₂, subst, ℕ, zero, ◌≤◌, ◌<◌, ◌+◌, ◌-◌, suc, true, List, [], ◌∷◌, ◌++◌, length, reverse, get_or, refl, arith, append_assoc}
use Rattle.std.proofs.Math.Seq.{take-length}
use Rattle.std.proofs.lemmas.List.{append-nil}
use Rattle.std.specs.Str.{bytes_eq}
use Rattle.def_alignment.specs.Alignments.{LineStep, in_both, in_first, in_second, Aligns, common_count, IsAlignment}
use Rattle.tn_alignment.specs.declared.steps.LinesLeft.{LinesLeft}
use Rattle.tn_alignment.specs.Tables.{back, most_common, IsLeft, LeadsThrough, CommonStepLoses, FirstStepLoses}
use Rattle.tn_alignment.proofs.Cells.{at_most, is_left, none_empty, back_before, same_line, true_line}

-- ---- one step

pub leads_both : (first second : List (List ℕ)) (i j : ℕ) → 0 < i → i ≤ length first → 0 < j → j ≤ length second
    → bytes_eq (get_or first (i - 1) []) (get_or second (j - 1) []) ≡ true
    → most_common (back first i) (back second j) ≡ most_common (back first (i - 1)) (back second (j - 1)) + 1
    → LeadsThrough first second (record { first = i; second = j }) in_both (record { first = i - 1; second = j - 1 })
leads_both first second i j pos in_i pos_j in_j same counts =
    let x : List ℕ = get_or first (i - 1) [] in
    let y : List ℕ = get_or second (j - 1) [] in
    let of_i : back first i ≡ x ∷ back first (i - 1) = back_before first i [] pos in_i in
    let of_j : back second j ≡ y ∷ back second (j - 1) = back_before second j [] pos_j in_j in
    record {
      goes = λ t a. subst (λ l. Aligns (in_both ∷ t) l (back second j)) (sym of_i)
          (subst (λ l. Aligns (in_both ∷ t) (x ∷ back first (i - 1)) l) (sym of_j) (true_line x y same, a));
      counts = omega arith;
      within = record { of_first = omega arith; of_second = omega arith };
      nearer = omega arith;
    }

pub leads_first : (first second : List (List ℕ)) (i j : ℕ) → 0 < i → i ≤ length first → j ≤ length second
    → most_common (back first i) (back second j) ≡ most_common (back first (i - 1)) (back second j)
    → LeadsThrough first second (record { first = i; second = j }) in_first (record { first = i - 1; second = j })
leads_first first second i j pos in_i in_j counts =
    let of_i : back first i ≡ get_or first (i - 1) [] ∷ back first (i - 1) = back_before first i [] pos in_i in
    record {
      goes = λ t a. subst (λ l. Aligns (in_first ∷ t) l (back second j)) (sym of_i) a;
      counts = omega arith;
      within = record { of_first = omega arith; of_second = in_j };
      nearer = omega arith;
    }

leads_second : (first second : List (List ℕ)) (i j : ℕ) → i ≤ length first → 0 < j → j ≤ length second
    → most_common (back first i) (back second j) ≡ most_common (back first i) (back second (j - 1))
    → LeadsThrough first second (record { first = i; second = j }) in_second (record { first = i; second = j - 1 })
leads_second first second i j in_i pos_j in_j counts =
    let of_j : back second j ≡ get_or second (j - 1) [] ∷ back second (j - 1) = back_before second j [] pos_j in_j in
    record {
      goes = λ t a. subst (λ l. Aligns (in_second ∷ t) (back first i) l) (sym of_j) a;
      counts = omega arith;
      within = record { of_first = in_i; of_second = omega arith };
      nearer = omega arith;
    }

-- ---- steps that there aren't

-- what a first line and those after it are
record Begins (lines : List (List ℕ)) (n : ℕ) (x : List ℕ) (xs : List (List ℕ)) : Type 0 where
  some : 0 < n
  head : x ≡ get_or lines (n - 1) []
  rest : xs ≡ back lines (n - 1)

begins : (lines : List (List ℕ)) (n : ℕ) (x : List ℕ) (xs : List (List ℕ)) → n ≤ length lines → back lines n ≡ x ∷ xs → Begins lines n x xs
begins lines zero x xs h e = let empty : [] ≡ x ∷ xs = e in cc
begins lines (suc n) x xs h e =
    let b : back lines (suc n) ≡ get_or lines (suc n - 1) [] ∷ back lines (suc n - 1) = back_before lines (suc n) [] (omega arith) h in
    let both : x ∷ xs ≡ get_or lines (suc n - 1) [] ∷ back lines (suc n - 1) = sym e ∙ b in
    record { some = omega arith; head = cc; rest = cc }

pub no_common_step : (first second : List (List ℕ)) (i j : ℕ) → i ≤ length first → j ≤ length second
    → (0 < i → 0 < j → bytes_eq (get_or first (i - 1) []) (get_or second (j - 1) []) ≡ true
    → most_common (back first i) (back second j) ≢ most_common (back first (i - 1)) (back second (j - 1)) + 1)
    → CommonStepLoses first second (record { first = i; second = j })
no_common_step first second i j in_i in_j never x y xs ys e f same q =
    let b : Begins first i x xs = begins first i x xs in_i e in
    let d : Begins second j y ys = begins second j y ys in_j f in
    let more : most_common xs ys ≡ most_common (back first (i - 1)) (back second (j - 1)) = ap₂ most_common b.rest d.rest in
    let whole : most_common (back first i) (back second j) ≡ suc (most_common xs ys) = ap₂ most_common e f ∙ q in
    never b.some d.some (same_line _ _ (sym b.head ∙ same ∙ d.head)) (omega arith)

pub no_first_step : (first second : List (List ℕ)) (i j : ℕ) → i ≤ length first
    → (0 < i → most_common (back first i) (back second j) ≢ most_common (back first (i - 1)) (back second j))
    → FirstStepLoses first second (record { first = i; second = j })
no_first_step first second i j in_i never x xs e q =
    let b : Begins first i x xs = begins first i x xs in_i e in
    never b.some (q ∙ ap (λ l. most_common l (back second j)) b.rest)

-- then there is one by a line of the second list
pub some_left : (first second : List (List ℕ)) (i j : ℕ) → i ≤ length first → 0 < i + j → FirstStepLoses first second (record { first = i; second = j }) → 0 < j
some_left first second zero j in_i pos loses = omega arith
some_left first second (suc i) zero in_i pos loses =
    let e : back first (suc i) ≡ get_or first (suc i - 1) [] ∷ back first (suc i - 1) = back_before first (suc i) [] (omega arith) in_i in
    absurd (loses _ _ e (none_empty (back first (suc i)) ∙ sym (none_empty (back first (suc i - 1)))))
some_left first second (suc i) (suc j) in_i pos loses = omega arith

counts_left : (first second : List (List ℕ)) (i j : ℕ) → i ≤ length first → 0 < j → j ≤ length second
    → CommonStepLoses first second (record { first = i; second = j }) → FirstStepLoses first second (record { first = i; second = j })
    → most_common (back first i) (back second j) ≡ most_common (back first i) (back second (j - 1))
counts_left first second zero j in_i pos in_j no_both no_first = refl
counts_left first second (suc i) j in_i pos in_j no_both no_first =
    let x : List ℕ = get_or first (suc i - 1) [] in
    let xs : List (List ℕ) = back first (suc i - 1) in
    let y : List ℕ = get_or second (j - 1) [] in
    let ys : List (List ℕ) = back second (j - 1) in
    let e : back first (suc i) ≡ x ∷ xs = back_before first (suc i) [] (omega arith) in_i in
    let f : back second j ≡ y ∷ ys = back_before second j [] pos in_j in
    let whole : most_common (back first (suc i)) (back second j) ≡ most_common (x ∷ xs) (y ∷ ys) = ap₂ most_common e f in
    whole
    ∙ is_left (most_common xs (y ∷ ys)) (most_common (x ∷ xs) ys) (most_common xs ys) (bytes_eq x y)
    (λ q. no_first x xs e (whole ∙ q ∙ ap (most_common xs) (sym f)))
    (λ s q. no_both x y xs ys e f (true_line x y s) q)
    ∙ ap (λ l. most_common l ys) (sym e)

pub leads_rest : (first second : List (List ℕ)) (i j : ℕ) → i ≤ length first → j ≤ length second → 0 < i + j
    → CommonStepLoses first second (record { first = i; second = j }) → FirstStepLoses first second (record { first = i; second = j })
    → LeadsThrough first second (record { first = i; second = j }) in_second (record { first = i; second = j - 1 })
leads_rest first second i j in_i in_j pos no_both no_first =
    let some : 0 < j = some_left first second i j in_i pos no_first in
    leads_second first second i j in_i some in_j (counts_left first second i j in_i some in_j no_both no_first)

-- ---- all steps

-- these steps led here
pub record Walk (first second : List (List ℕ)) (s : List LineStep) (left : LinesLeft) : Type 0 where
  pub goes : (t : List LineStep) → Aligns t (back first left.first) (back second left.second) → Aligns (s ++ t) (reverse first) (reverse second)
  pub counts : common_count s + most_common (back first left.first) (back second left.second) ≡ most_common (reverse first) (reverse second)
  pub within : IsLeft first second left

pub walk_begins : (first second : List (List ℕ)) (i j : ℕ) → i ≡ length first → j ≡ length second → Walk first second [] (record { first = i; second = j })
walk_begins first second i j e f =
    let of_i : back first i ≡ reverse first = ap (back first) e ∙ ap reverse (take-length first) in
    let of_j : back second j ≡ reverse second = ap (back second) f ∙ ap reverse (take-length second) in
    let same : most_common (back first i) (back second j) ≡ most_common (reverse first) (reverse second) = ap₂ most_common of_i of_j in
    record {
      goes = λ t a. subst (λ l. Aligns t l (reverse second)) of_i (subst (λ l. Aligns t (back first i) l) of_j a);
      counts = omega arith;
      within = record { of_first = omega arith; of_second = omega arith };
    }

count_append : (s t : List LineStep) → common_count (s ++ t) ≡ common_count s + common_count t
count_append [] t = omega arith
count_append (in_both ∷ s) t = omega (arith, count_append s t)
count_append (in_first ∷ s) t = count_append s t
count_append (in_second ∷ s) t = count_append s t

pub walk_goes_on : (first second : List (List ℕ)) (s : List LineStep) (old : LinesLeft) (step : LineStep) (new : LinesLeft)
    → Walk first second s old → LeadsThrough first second old step new → Walk first second (s ++ step ∷ []) new
walk_goes_on first second s old step new w l =
    let counted : common_count (s ++ step ∷ []) ≡ common_count s + common_count (step ∷ []) = count_append s (step ∷ []) in
    record {
      goes = λ t a. subst (λ all. Aligns all (reverse first) (reverse second)) (sym (append_assoc s (step ∷ []) t)) (w.goes (step ∷ t) (l.goes t a));
      counts = omega (arith, counted, w.counts, l.counts);
      within = l.within;
    }

pub walk_ends : (first second : List (List ℕ)) (s : List LineStep) (left : LinesLeft) → Walk first second s left → left.first ≡ 0 → left.second ≡ 0
    → IsAlignment s (reverse first) (reverse second)
walk_ends first second s left w e f =
    let no_first : back first left.first ≡ [] = ap (back first) e in
    let no_second : back second left.second ≡ [] = ap (back second) f in
    let none : most_common (back first left.first) (back second left.second) ≡ 0 = ap (λ l. most_common l (back second left.second)) no_first in
    record {
      goes_through = subst (λ all. Aligns all (reverse first) (reverse second)) (append-nil s) (w.goes [] (no_first, no_second));
      greatest = λ other h. omega (arith, at_most other (reverse first) (reverse second) h, none, w.counts);
    }
