-- A move by a pick that a number draws.
use Rattle.std.proofs.Common.{◌≡◌, ◌∙◌, ℕ, ◌+◌, ◌<◌, ◌≤◌, Bool, true, false, cond, List, [], ◌∷◌, ◌++◌, length, take, get_or, ap, sym, Some, None, append-nil}
use Rattle.std.specs.Prelude.{Option}
use Rattle.std.proofs.lemmas.List.{take_all}
use Rattle.std.proofs.lemmas.List.Elements.{filter_more}
use Rattle.def_run.specs.Run.{pick_step_after}
use Rattle.def_random_run.specs.RandomRuns.{moving_picks, pick_at, random_pick}
use Rattle.def_random_run.proofs.RandomRuns.{pick_moves}
use Rattle.tn_explore.specs.Query.{Query}
use Rattle.tn_explore.specs.SearchStates.{StepGives}
use Rattle.tn_random_run.specs.RandomStates.{MovesBy, AreMovingFor, IsMoveOf}

-- ---- the picks that move

module _ (a : Query) (journal picks : List ℕ) (i : ℕ) where
  -- one pick more was tried
  one_more : (old : List ℕ) (moved : Bool) → i < length picks → MovesBy a journal (get_or picks i 0) moved → AreMovingFor a (take i picks) journal old
      → AreMovingFor a (take (i + 1) picks) journal (old ++ cond moved (get_or picks i 0 ∷ []) [])
  one_more old moved below moves so_far =
      ap (λ xs. xs ++ cond moved (get_or picks i 0 ∷ []) []) so_far
      ∙ ap (λ b. moving_picks a.program (take i picks) journal ++ cond b (get_or picks i 0 ∷ []) []) (sym moves)
      ∙ sym (filter_more (λ pick. (pick_step_after a.program journal pick).moved) picks i 0 below)

  pub moving_more : (old new : List ℕ) (moved : Bool) → i < length picks → MovesBy a journal (get_or picks i 0) moved → moved ≡ true → new ≡ old ++ get_or picks i 0 ∷ []
      → AreMovingFor a (take i picks) journal old → AreMovingFor a (take (i + 1) picks) journal new
  moving_more old new moved below moves does added so_far = added ∙ one_more old true below (moves ∙ does) so_far

  pub idle_more : (old new : List ℕ) (moved : Bool) → i < length picks → MovesBy a journal (get_or picks i 0) moved → moved ≡ false → new ≡ old
      → AreMovingFor a (take i picks) journal old → AreMovingFor a (take (i + 1) picks) journal new
  idle_more old new moved below moves idle same so_far = same ∙ sym (append-nil old) ∙ one_more old false below (moves ∙ idle) so_far

  pub moving_all : (moving : List ℕ) → length picks ≤ i → AreMovingFor a (take i picks) journal moving → AreMovingFor a picks journal moving
  moving_all moving past so_far = so_far ∙ ap (λ ks. moving_picks a.program ks journal) (take_all i picks past)

-- ---- the drawn one

both_ways : (b : Bool) → b ≡ true → b ≡ false → ⊥
both_ways b h k = cc

module _ {S : Type 0} (Journal : S → List ℕ) (IsOf : S → Query → Type 0) (a : Query) (picks : List ℕ) (number : ℕ) (s : S) (moving : List ℕ) (are : AreMovingFor a picks (Journal s) moving) where
  drawn_of : (o : Option ℕ) → pick_at moving number ≡ o → random_pick a.program picks (Journal s) number ≡ o
  drawn_of o is = ap (λ ks. pick_at ks number) (sym are) ∙ is

  -- it moves
  pub drawn_moves : (pick : ℕ) (t : S) (moved : Bool) → pick_at moving number ≡ Some pick → StepGives Journal IsOf a (Journal s) pick t moved → IsMoveOf Journal IsOf a picks number s t moved
  drawn_moves pick t true is gives = (pick, drawn_of (Some pick) is, record { is_of = gives.2; longer = gives.1 })
  drawn_moves pick t false is gives = absurd (both_ways (pick_step_after a.program (Journal s) pick).moved (pick_moves a.program picks (Journal s) number pick (drawn_of (Some pick) is)) gives)

  pub none_moves : pick_at moving number ≡ None → IsMoveOf Journal IsOf a picks number s s false
  none_moves is = (drawn_of None is, λ i. s)
