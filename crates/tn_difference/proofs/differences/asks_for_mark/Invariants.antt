use Rattle.std.proofs.Common.{◌≡◌, drop, map}
use Rattle.std.specs.Option.{is_some}
use Rattle.def_session.specs.Session.{mark_asked}
use Rattle.tn_action.specs.Views.{effect_seen}
use Rattle.tn_difference.proofs.differences.asks_for_mark.Given as goal

abbrev pub invariant-loop-effect : goal.invariant-loop-effect
invariant-loop-effect g l = is_some (mark_asked (map effect_seen (drop l.effect-index l.effects))) ≡ is_some (mark_asked (map effect_seen l.effects))
