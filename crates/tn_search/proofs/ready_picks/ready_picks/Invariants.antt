use Rattle.std.proofs.Common.{◌≡◌, take}
use Rattle.std.specs.List.{filter}
use Rattle.tn_program.specs.Views.{program_of}
use Rattle.tn_search.specs.ReadyPicks.{may_move_by}
use Rattle.tn_search.proofs.ready_picks.ready_picks.Given as goal

abbrev pub invariant-loop-pick : goal.invariant-loop-pick
invariant-loop-pick g l = l.ready.items ≡ filter (may_move_by (program_of l.program) l.node) (take l.pick-index l.picks)
