use Rattle.std.proofs.Common.{◌∙◌, ◌∷◌, [], sym, ap, map}
use Rattle.def_session.specs.Messages.{last_message, later}
use Rattle.tn_machine.specs.Types.{effect_seen}
use Rattle.tn_session.proofs.Effects.{popped, no_message}
use Rattle.tn_session.proofs.event.last_message.Goals as goal

pub returns-in-Message : goal.returns-in-Message
returns-in-Message g c =
    let left = last_message (map effect_seen c.pop.new.self.items) in
    sym (popped c.loop-effect.effects.items c.pop.new.self.items c.in-Some.effect c.in-Some.ensures.items
    ∙ ap (λ e. later left (last_message (effect_seen e ∷ []))) c.in-Message.is)
    ∙ c.loop-effect.invariant

pub loop-effect-preserved : goal.loop-effect-preserved
loop-effect-preserved g c =
    let left = last_message (map effect_seen c.pop.new.self.items) in
    sym (popped c.loop-effect.effects.items c.pop.new.self.items c.in-Some.effect c.in-Some.ensures.items
    ∙ ap (later left) (no_message c.in-Some.effect c.in_default-effect.not-Message))
    ∙ c.loop-effect.invariant
