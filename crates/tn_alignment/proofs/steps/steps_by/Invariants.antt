use Rattle.std.proofs.Common.{◌+◌, map}
use Rattle.tn_alignment.specs.Tables.{line_texts, line_step_seen}
use Rattle.tn_alignment.proofs.Walks.{Walk}
use Rattle.tn_alignment.proofs.steps.steps_by.Given as goal

-- the steps so far led to what is left
abbrev pub invariant-loop-left : goal.invariant-loop-left
invariant-loop-left g l = Walk (line_texts l.fn.first) (line_texts l.fn.second) (map line_step_seen l.steps.items) l.left

abbrev pub decreases-loop-left : goal.decreases-loop-left
decreases-loop-left g l = l.left.first + l.left.second
