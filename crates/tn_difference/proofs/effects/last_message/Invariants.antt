use Rattle.std.proofs.Common.{◌≡◌, drop, map}
use Rattle.def_session.specs.Messages.{last_message}
use Rattle.tn_action.specs.Views.{effect_seen}
use Rattle.tn_difference.specs.Effects.{message_term, later_message}
use Rattle.tn_difference.proofs.effects.last_message.Given as goal

abbrev pub invariant-loop-effect : goal.invariant-loop-effect
invariant-loop-effect g l = later_message (message_term l.last) (map effect_seen (drop l.effect-index l.effects)) ≡ last_message (map effect_seen l.effects)
