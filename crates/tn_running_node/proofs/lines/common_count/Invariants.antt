use Rattle.std.proofs.Common.{◌≡◌, ◌+◌, drop}
use Rattle.tn_running_node.specs.Lines.{common_from}
use Rattle.tn_running_node.specs.Views.{lines_seen}
use Rattle.tn_running_node.proofs.lines.common_count.Given as goal

abbrev pub invariant-loop-place : goal.invariant-loop-place
invariant-loop-place g l = common_from l.place (drop l.place (lines_seen l.here)) (lines_seen l.there) + l.place ≡ common_from 0 (lines_seen l.here) (lines_seen l.there)
