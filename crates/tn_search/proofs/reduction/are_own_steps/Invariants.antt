use Rattle.std.proofs.Common.{◌≡◌, drop, map}
use Rattle.def_independence.specs.Alone.{are_own_steps}
use Rattle.tn_flags.specs.Views.{event_of}
use Rattle.tn_search.proofs.reduction.are_own_steps.Given as goal

abbrev pub invariant-loop-i : goal.invariant-loop-i
invariant-loop-i g l = are_own_steps (map (event_of {A = g.row.A.Denot}) (drop l.i l.events.items)) ≡ are_own_steps (map (event_of {A = g.row.A.Denot}) l.events.items)
