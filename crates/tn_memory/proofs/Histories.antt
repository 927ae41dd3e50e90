-- Histories that go on, and the step that adds a use.
use Rattle.std.proofs.Common.{◌≡◌, ℕ, ◌≤◌, ◌<◌, ◌==◌, Bool, true, false, List, [], ◌∷◌, ◌++◌, length, refl, ap, sym, ◌∙◌, subst, arith, inl, append_assoc, None}
use Rattle.std.proofs.lemmas.List.{append-nil}
use Rattle.std.proofs.lemmas.Bool.Decides.{nat_tests}
use mathlib.Core.List.{IsPrefix}
use prog.Atomic.{either}
use Rattle.logbook.specs.Pages.{Cell, cell, keeps, no_nib, step, Moves, Goes}
use Rattle.tn_memory.specs.declared.history.Use.{Use}
use Rattle.tn_memory.specs.declared.history.Use.TheVariants.{Bound}
use Rattle.tn_memory.specs.History.{count_after, count_from, in_use, bound_of, IsWithinBound}
use Rattle.tn_memory.specs.Count.{IsCountWord, Looks, AddsUse}

pub prefix_trans : {A : Type 0} (xs ys zs : List A) → IsPrefix xs ys → IsPrefix ys zs → IsPrefix xs zs
prefix_trans xs ys zs p q = (p.0 ++ q.0, sym (append_assoc xs p.0 q.0) ∙ (ap (λ w. w ++ q.0) p.1 ∙ q.1))

pub prefix_more : {A : Type 0} (xs ys more : List A) → IsPrefix xs ys → IsPrefix xs (ys ++ more)
prefix_more xs ys more p = (p.0 ++ more, sym (append_assoc xs p.0 more) ∙ ap (λ w. w ++ more) p.1)

-- the bound that a history begins with
pub bound_is : (most : ℕ) (xs : List Use) → IsPrefix (Bound most ∷ []) xs → bound_of xs ≡ most
bound_is most xs p = sym (ap bound_of p.1)

pub count_more : (n : ℕ) (xs : List Use) (x : Use) → count_from n (xs ++ x ∷ []) ≡ count_after (count_from n xs) x
unfolding count_from
count_more n [] x = refl
count_more n (y ∷ xs) x = count_more (count_after n y) xs x

-- no byte is in use at the start
pub starts : (most : ℕ) → IsCountWord ((0, true) ∷ []) (Bound most ∷ [])
unfolding count_from
starts most = record { words = refl; within = omega arith }

abbrev pub shown : List Use → List Use
shown log = []

abbrev pub moved : List Use → List Use → ℕ → Type 0
moved xs ys n = Unit {0}

pub look_goes : (log v : List Use) (e : Use) → IsWithinBound log → IsPrefix v log
    → Goes IsCountWord shown moved 0 (v, (no_nib, None)) (λ n. n) (Looks (step 0 0 0 e) (v, (no_nib, None))) ((in_use log, true) ∷ []) log
look_goes log v e within pre =
    let all : log ++ [] ≡ log = append-nil log in (
      keeps,
      [],
      None,
      tt,
      record { words = ap (λ (l : List Use). (in_use l, true) ∷ []) (sym all); within = subst IsWithinBound (sym all) within },
      inl (refl, refl),
      record { count = ap in_use (sym all); within = subst IsWithinBound (sym all) within },
    )

-- whatever the history is, a look finds how many bytes are in use after it
pub look_moves : (v : List Use) (e : Use) → Moves IsCountWord shown moved 0 (v, (no_nib, None)) (λ n. n) (Looks (step 0 0 0 e) (v, (no_nib, None)))
look_moves v e cs log kept pre away =
    let P : List Cell → Type 0 = λ c. (0 < length c) × ((cell c 0).1 ≡ true) × Goes IsCountWord shown moved 0 (v, (no_nib, None)) (λ n. n) (Looks (step 0 0 0 e) (v, (no_nib, None))) c log in
    subst P (sym kept.words) (omega arith, refl, look_goes log v e kept.within pre)

pub adds_goes : (most : ℕ) (log v : List Use) (e : Use) (old new : ℕ) → new ≡ count_after old e → new ≤ most → IsPrefix (Bound most ∷ []) v → IsWithinBound log → IsPrefix v log
    → (b : Bool) → (in_use log == old) ≡ b
    → Goes IsCountWord shown moved 0 (v, (no_nib, None)) (λ n. either (n == old) new n) (AddsUse (step 0 old new e) (v, (no_nib, None))) ((in_use log, true) ∷ []) log
adds_goes most log v e old new counts low first within pre true is =
    let here : in_use log ≡ old = grind (arith, nat_tests) in
    let after : in_use (log ++ e ∷ []) ≡ new = count_more 0 log e ∙ (ap (λ n. count_after n e) here ∙ sym counts) in
    let n : either (in_use log == old) new (in_use log) ≡ in_use (log ++ e ∷ []) = rw is (sym after) in
    let b : bound_of (log ++ e ∷ []) ≡ most = bound_is most (log ++ e ∷ []) (prefix_more (Bound most ∷ []) log (e ∷ []) (prefix_trans (Bound most ∷ []) v log first pre)) in (
      keeps,
      e ∷ [],
      None,
      tt,
      record { words = ap (λ (k : ℕ). (k, true) ∷ []) n; within = omega (arith, after, b, low) },
      inl (refl, refl),
      rw is (record { before = log; last = refl; expected = here }),
    )
adds_goes most log v e old new counts low first within pre false is =
    let all : log ++ [] ≡ log = append-nil log in
    let n : either (in_use log == old) new (in_use log) ≡ in_use (log ++ []) = rw is (ap in_use (sym all)) in (
      keeps,
      [],
      None,
      tt,
      record { words = ap (λ (k : ℕ). (k, true) ∷ []) n; within = subst IsWithinBound (sym all) within },
      inl (refl, refl),
      rw is (record { count = ap in_use (sym all); within = subst IsWithinBound (sym all) within }),
    )

-- whatever the history is, the exchange adds the use to it, or finds how many bytes are in use after it
pub adds_moves : (most : ℕ) (v : List Use) (e : Use) (old new : ℕ) → new ≡ count_after old e → new ≤ most → IsPrefix (Bound most ∷ []) v
    → Moves IsCountWord shown moved 0 (v, (no_nib, None)) (λ n. either (n == old) new n) (AddsUse (step 0 old new e) (v, (no_nib, None)))
adds_moves most v e old new counts low first cs log kept pre away =
    let P : List Cell → Type 0 = λ c. (0 < length c) × ((cell c 0).1 ≡ true) × Goes IsCountWord shown moved 0 (v, (no_nib, None)) (λ n. either (n == old) new n) (AddsUse (step 0 old new e) (v, (no_nib, None))) c log in
    subst P (sym kept.words) (omega arith, refl, adds_goes most log v e old new counts low first kept.within pre (in_use log == old) refl)
