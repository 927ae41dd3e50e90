-- The next one of some picks.
use Rattle.std.proofs.Common.{◌≡◌, ◌∙◌, ℕ, zero, suc, ◌+◌, ◌-◌, ◌<◌, ◌≤◌, ◌==◌, Bool, true, false, ◌&&◌, ◌||◌, cond, List, [], ◌∷◌, ◌++◌, length, drop, get_or, ap, sym, refl, None, Some, rules, arith}
use Rattle.std.specs.Prelude.{Option, unwrap_or}
use Rattle.std.specs.List.{list_any}
use Rattle.std.specs.Option.{is_some, option_map}
use Rattle.std.proofs.lemmas.List.{drop_more}
use Rattle.std.proofs.Math.ListN.{drop_of_length-le}
use Rattle.def_run.specs.Run.{pick_step_after}
use Rattle.tn_explore.specs.Query.{Query, kept_for}
use Rattle.tn_explore.specs.SearchStates.{HasAllMoves}
use Rattle.tn_greedy_run.specs.GreedyRuns.{is_next_for, next_pick_for, greedy_run_for, IsAfterPick, IsNextState, IsGreedyState}

-- no pick before this place is the next one
abbrev pub NoneBefore : {S : Type 0} → (S → List ℕ) → Query → S → List ℕ → ℕ → Type 0
NoneBefore Journal a s picks i = next_pick_for a (drop i picks) (Journal s) ≡ next_pick_for a picks (Journal s)

-- ---- picks that don't move

has_element : (xs : List ℕ) (k x : ℕ) → k < length xs → get_or xs k x ≡ x → list_any (λ y. y == x) xs ≡ true
has_element [] k x below is = absurd (omega (arith, below))
has_element (y ∷ ys) zero x below is = let same : (y == x) ≡ true = search rules in rw same refl
has_element (y ∷ ys) (suc k) x below is = rw (has_element ys k x (omega (arith, below)) is) (or_true (y == x))
  where
    or_true : (b : Bool) → b || true ≡ true
    or_true true = refl
    or_true false = refl

-- a pick that isn't among those that move is not the next one
pub unmoving : {S : Type 0} (Journal : S → List ℕ) (IsOf : S → Query → Type 0) (a : Query) (s : S) (moving : List ℕ) (pick : ℕ)
    → HasAllMoves Journal IsOf s moving → IsOf s a → list_any (λ y. y == pick) moving ≡ false → is_next_for a (Journal s) pick ≡ false
unmoving Journal IsOf a s moving pick all is_of none = by_move ((pick_step_after a.program (Journal s) pick).moved) refl
  where
    by_move : (b : Bool) → (pick_step_after a.program (Journal s) pick).moved ≡ b → b && a.admits (kept_for a (Journal s ++ pick ∷ [])) ≡ false
    by_move true e = let (k, below, is) = all a is_of pick e in let some = has_element moving k pick below is in absurd (cc)
    by_move false e = refl

-- ---- the first one that is next

module _ {S : Type 0} (Journal : S → List ℕ) (IsOf : S → Query → Type 0) (a : Query) (s : S) (picks : List ℕ) where
  next_at : (i : ℕ) → i < length picks → NoneBefore Journal a s picks i
      → cond (is_next_for a (Journal s) (get_or picks i 0)) (Some (get_or picks i 0)) (next_pick_for a (drop (i + 1) picks) (Journal s)) ≡ next_pick_for a picks (Journal s)
  next_at i below before = sym (ap (λ ks. next_pick_for a ks (Journal s)) (drop_more picks i 0 below)) ∙ before

  -- one that isn't is passed over
  pub passed_over : (i : ℕ) → i < length picks → is_next_for a (Journal s) (get_or picks i 0) ≡ false → NoneBefore Journal a s picks i → NoneBefore Journal a s picks (i + 1)
  passed_over i below other before =
      ap (λ b. cond b (Some (get_or picks i 0)) (next_pick_for a (drop (i + 1) picks) (Journal s))) (sym other) ∙ next_at i below before

  pub found_at : (i : ℕ) (o : Option S) → i < length picks → is_some o ≡ true → IsAfterPick Journal IsOf a (get_or picks i 0) s o → NoneBefore Journal a s picks i → IsNextState Journal IsOf a picks s o
  found_at i None below some after before = absurd (cc)
  found_at i (Some t) below some after before =
      (get_or picks i 0, sym (next_at i below before) ∙ ap (λ b. cond b (Some (get_or picks i 0)) (next_pick_for a (drop (i + 1) picks) (Journal s))) after.0, after.1)

  pub not_found : (i : ℕ) (o : Option S) → i < length picks → is_some o ≡ false → IsAfterPick Journal IsOf a (get_or picks i 0) s o → NoneBefore Journal a s picks i → NoneBefore Journal a s picks (i + 1)
  not_found i None below none after before = passed_over i below after before
  not_found i (Some t) below none after before = absurd (cc)

  pub none_found : (i : ℕ) → length picks ≤ i → NoneBefore Journal a s picks i → IsNextState Journal IsOf a picks s None
  none_found i past before = sym before ∙ ap (λ ks. next_pick_for a ks (Journal s)) (drop_of_length-le picks past)

-- ---- the run

-- the rest of the run goes on from this state
pub record GoesOn {S : Type 0} (Journal : S → List ℕ) (IsOf : S → Query → Type 0) (a : Query) (picks : List ℕ) (n i : ℕ) (first s : S) : Type 0 where
  pub is_of : IsOf s a
  pub same : greedy_run_for a picks (n - i) (Journal s) ≡ greedy_run_for a picks n (Journal first)

module _ {S : Type 0} (Journal : S → List ℕ) (IsOf : S → Query → Type 0) (a : Query) (picks : List ℕ) (n : ℕ) (first : S) where
  one_move_left : (i : ℕ) (s : S) (o : Option ℕ) → i < n → next_pick_for a picks (Journal s) ≡ o
      → greedy_run_for a picks (n - i) (Journal s) ≡ unwrap_or (option_map (λ pick. greedy_run_for a picks (n - (i + 1)) (Journal s ++ pick ∷ [])) o) (Journal s)
  one_move_left i s o below next =
      let more : n - i ≡ suc (n - (i + 1)) = omega (arith, below) in
      rw more (ap (λ m. unwrap_or (option_map (λ pick. greedy_run_for a picks (n - (i + 1)) (Journal s ++ pick ∷ [])) m) (Journal s)) next)

  pub starts : IsOf first a → GoesOn Journal IsOf a picks n 0 first first
  starts is_of = let all : n - 0 ≡ n = omega arith in record { is_of = is_of; same = ap (λ m. greedy_run_for a picks m (Journal first)) all }

  pub moves_on : (i : ℕ) (s t : S) → i < n → GoesOn Journal IsOf a picks n i first s → IsNextState Journal IsOf a picks s (Some t) → GoesOn Journal IsOf a picks n (i + 1) first t
  moves_on i s t below old (pick, next, more) = record {
    is_of = more.is_of;
    same = ap (greedy_run_for a picks (n - (i + 1))) more.longer ∙ sym (one_move_left i s (Some pick) below next) ∙ old.same;
  }

  pub stops : (i : ℕ) (s : S) → i < n → GoesOn Journal IsOf a picks n i first s → IsNextState Journal IsOf a picks s None → IsGreedyState Journal IsOf a picks n first s
  stops i s below old none = record { is_of = old.is_of; journal = sym (one_move_left i s None below none) ∙ old.same }

  pub ends : (i : ℕ) (s : S) → n ≤ i → GoesOn Journal IsOf a picks n i first s → IsGreedyState Journal IsOf a picks n first s
  ends i s past old =
      let zero_left : n - i ≡ 0 = omega (arith, past) in
      record { is_of = old.is_of; journal = ap (λ m. greedy_run_for a picks m (Journal s)) (sym zero_left) ∙ old.same }
