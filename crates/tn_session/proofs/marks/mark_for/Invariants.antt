use Rattle.std.proofs.Common.{◌≡◌, map, drop}
use Rattle.def_session.specs.Session.{mark_asked}
use Rattle.tn_machine.specs.Types.{effect_seen}
use Rattle.tn_session.proofs.Effects.{mark_so_far}
use Rattle.tn_session.proofs.marks.mark_for.Given as goal

abbrev pub invariant-loop-effect : goal.invariant-loop-effect
invariant-loop-effect g l = mark_so_far l.returns (mark_asked (map effect_seen (drop l.effect-index l.effects))) ≡ mark_asked (map effect_seen l.effects)
