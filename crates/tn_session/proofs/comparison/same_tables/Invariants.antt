use Rattle.std.proofs.Common.{◌≡◌, ℕ, ◌<◌, unwrap_or}
use Rattle.std.specs.Prelude.{slice_get}
use Rattle.def_spec.specs.Flags.{no_flags}
use Rattle.tn_flags.specs.Views.{table_of}
use Rattle.tn_session.proofs.comparison.same_tables.Given as goal

abbrev pub invariant-loop-place : goal.invariant-loop-place
invariant-loop-place l = (k : ℕ) → k < l.place → unwrap_or (slice_get (table_of l.one) k) no_flags ≡ unwrap_or (slice_get (table_of l.other) k) no_flags
