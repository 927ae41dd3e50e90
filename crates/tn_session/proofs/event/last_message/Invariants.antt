use Rattle.std.proofs.Common.{◌≡◌, map, vec_len}
use Rattle.def_session.specs.Messages.{last_message}
use Rattle.tn_machine.specs.Types.{effect_seen}
use Rattle.tn_session.proofs.event.last_message.Given as goal

abbrev pub invariant-loop-effect : goal.invariant-loop-effect
invariant-loop-effect g l = last_message (map effect_seen l.effects.items) ≡ last_message (map effect_seen l.fn.effects.items)

abbrev pub decreases-loop-effect : goal.decreases-loop-effect
decreases-loop-effect g l = vec_len l.effects
