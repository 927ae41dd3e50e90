use Rattle.std.proofs.Common.{◌≡◌, map, take}
use Rattle.tn_session.specs.Views.{process_marks_seen}
use Rattle.tn_session.proofs.copies.copy_all_marks.Given as goal

abbrev pub invariant-loop-of_process : goal.invariant-loop-of_process
invariant-loop-of_process g l = map process_marks_seen l.copies.items ≡ map process_marks_seen (take l.of_process-index l.of_process-items)
