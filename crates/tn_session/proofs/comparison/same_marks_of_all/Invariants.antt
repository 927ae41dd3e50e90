use Rattle.std.proofs.Common.{◌≡◌, ℕ, ◌<◌, ◌≤◌, [], length, unwrap_or}
use Rattle.std.specs.Prelude.{slice_get}
use Rattle.tn_session.specs.Views.{marks_seen}
use Rattle.tn_session.proofs.comparison.same_marks_of_all.Given as goal

abbrev pub invariant-loop-place : goal.invariant-loop-place
invariant-loop-place g l = record {
  few_in_one : length l.one ≤ 64;
  few_in_other : length l.other ≤ 64;
  below : (k : ℕ) → k < l.place → unwrap_or (slice_get (marks_seen l.one) k) [] ≡ unwrap_or (slice_get (marks_seen l.other) k) [];
}
