use Rattle.std.proofs.Common.{◌≡◌, ◌-◌, ◌+◌, vec_len}
use Rattle.tn_session.specs.Views.{marks_seen}
use Rattle.tn_session.proofs.marks.reach.Given as goal

abbrev pub invariant-loop-marks : goal.invariant-loop-marks
invariant-loop-marks g l = marks_seen l.marks.items ≡ marks_seen l.fn.marks.items

abbrev pub decreases-loop-marks : goal.decreases-loop-marks
decreases-loop-marks g l = l.place + 1 - vec_len l.marks
