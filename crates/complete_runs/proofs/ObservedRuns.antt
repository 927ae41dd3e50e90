-- Two runs by the same picks come to the same by one more.
use Rattle.std.proofs.Common.{◌≡◌, ℕ, ◌<◌, ◌≤◌, List, [], ◌∷◌, ◌++◌, length, Result, Ok, Err, IfOk, MatchResult, refl, sym, subst, arith}
use Rattle.std.specs.declared.alloc.AllocError.{AllocError}
use Rattle.def_script.specs.Program.{Program}
use Rattle.def_run.specs.Run.{moves}
use Rattle.def_run.specs.Laws.{IsIdleAfter}
use Rattle.tn_trace.specs.Runs.{IsRun, Steps}
use Rattle.tn_trace.specs.declared.run.PickOutcome.{PickOutcome}
use Rattle.tn_trace.specs.declared.run.PickOutcome.TheVariants.{Moved, Idle, Full}
use Rattle.tn_trace.specs.declared.run.Run.{Run}
use Rattle.complete_runs.specs.ObservedRuns.{OneMoreAlike, picks_by}
use Rattle.complete_runs.proofs.SameSteps.{not_both}

module _ (p : Program) (limit : ℕ) (picks : List ℕ) (pick : ℕ) where
  -- what is known of what the pick came to
  abbrev CameTo : PickOutcome → Type 0
  CameTo Moved = (length picks < limit) × (moves p (picks ++ pick ∷ []) ≡ picks ++ pick ∷ [])
  CameTo Idle = (length picks < limit) × IsIdleAfter p picks pick × (moves p picks ≡ picks)
  CameTo Full = limit ≤ length picks

  one_outcome : (a b : PickOutcome) → CameTo a → CameTo b → a ≡ b
  one_outcome Moved Moved h i = refl
  one_outcome Moved Idle h i = absurd (not_both p picks pick h.1 i.1 i.2)
  one_outcome Moved Full h i = absurd (omega (arith, h.0, i))
  one_outcome Idle Moved h i = absurd (not_both p picks pick i.1 h.1 h.2)
  one_outcome Idle Idle h i = refl
  one_outcome Idle Full h i = absurd (omega (arith, h.0, i))
  one_outcome Full Moved h i = absurd (omega (arith, h, i.0))
  one_outcome Full Idle h i = absurd (omega (arith, h, i.0))
  one_outcome Full Full h i = refl

module _ {A O G : Type 0} (Seen : O → Program → List ℕ → Type 0) (Adds : Program → List ℕ → ℕ → O → O → G → G → Type 0) (p : Program) (limit : ℕ) (picks : List ℕ) (pick : ℕ) where
  came_to : (old new : Run A O) (out out' : G) (a : PickOutcome) → Steps Seen Adds p limit picks pick a old new out out' → CameTo p limit picks pick a
  came_to old new out out' Moved h = (h.0, h.1.moved)
  came_to old new out out' Idle h = (h.0, h.2, h.1.moved)
  came_to old new out out' Full h = h.0

  run_by : (old new : Run A O) (out out' : G) (a : PickOutcome) → IsRun Seen p limit picks old → Steps Seen Adds p limit picks pick a old new out out' → IsRun Seen p limit (picks_by a picks pick) new
  run_by old new out out' Moved run h = h.1
  run_by old new out out' Idle run h = h.1
  run_by old new out out' Full run h = subst (IsRun Seen p limit picks) (sym h.1) run

  pub one_more_alike : (one one' other other' : Run A O) (out out' again again' : G) (r q : Result PickOutcome AllocError) → IsRun Seen p limit picks one → IsRun Seen p limit picks other
      → MatchResult r (λ a. Steps Seen Adds p limit picks pick a one one' out out') (λ _. length picks < limit)
      → MatchResult q (λ b. Steps Seen Adds p limit picks pick b other other' again again') (λ _. length picks < limit)
      → IfOk r (λ a. IfOk q (OneMoreAlike Seen p (limit, picks) pick one' other' a))
  one_more_alike one one' other other' out out' again again' (Ok a) (Ok b) run ran h i =
      let same : a ≡ b = one_outcome p limit picks pick a b (came_to one one' out out' a h) (came_to other other' again again' b i) in
      record {
        outcome = same;
        after = record {
          first = run_by one one' out out' a run h;
          second = subst (λ c. IsRun Seen p limit (picks_by c picks pick) other') (sym same) (run_by other other' again again' b ran i);
        };
      }
  one_more_alike one one' other other' out out' again again' (Ok a) (Err e) run ran h i = tt
  one_more_alike one one' other other' out out' again again' (Err e) q run ran h i = tt
