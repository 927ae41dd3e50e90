use Rattle.std.proofs.Common.{◌≡◌, true, drop}
use Rattle.def_explain.specs.Remarks.{has_reason_line}
use Rattle.tn_replay.proofs.reply_lines.has_reason_line.Given as goal

abbrev pub invariant-loop-place : goal.invariant-loop-place
invariant-loop-place l = has_reason_line l.at_start (drop l.place l.replies) ≡ has_reason_line true l.replies
