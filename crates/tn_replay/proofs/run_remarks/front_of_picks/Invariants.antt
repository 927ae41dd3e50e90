use Rattle.std.proofs.Common.{◌≤◌, length, drop}
use Rattle.std.specs.List.{AllByRecursion}
use Rattle.def_explain.specs.RemarkLaws.{TakesNoCommand}
use Rattle.tn_replay.proofs.run_remarks.front_of_picks.Given as goal

abbrev pub invariant-loop-end : goal.invariant-loop-end
invariant-loop-end l = record {
  fits : l.end ≤ length l.picks;
  none : AllByRecursion TakesNoCommand (drop l.end l.picks);
}

abbrev pub decreases-loop-end : goal.decreases-loop-end
decreases-loop-end l = l.end
