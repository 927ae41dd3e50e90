use Rattle.std.proofs.Common.{◌≡◌, ◌-◌}
use Rattle.def_explain.specs.Differences.{has_mark_below}
use Rattle.tn_session.specs.Looks.{look_seen}
use Rattle.tn_explain.proofs.step_differences.has_mark_below.Given as goal

abbrev pub invariant-loop-above : goal.invariant-loop-above
invariant-loop-above g l = has_mark_below (look_seen l.look) l.pid (l.depths - l.above) ≡ has_mark_below (look_seen l.look) l.pid l.depths
