use Rattle.std.proofs.Common.{◌≡◌, ℕ, ◌<◌, false, unwrap_or}
use Rattle.std.specs.Prelude.{slice_get}
use Rattle.tn_term.specs.Views.{alive_of}
use Rattle.tn_search.proofs.session_states.same_living.Given as goal

abbrev pub invariant-loop-place : goal.invariant-loop-place
invariant-loop-place l = (k : ℕ) → k < l.place → unwrap_or (slice_get (alive_of l.one) k) false ≡ unwrap_or (slice_get (alive_of l.other) k) false
