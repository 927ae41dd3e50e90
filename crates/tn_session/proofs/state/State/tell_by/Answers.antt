use Rattle.std.proofs.Common.{◌∙◌, map, sym, ap}
use Rattle.def_session.specs.Session.{all_affected, mark_asked}
use Rattle.tn_machine.specs.Types.{effect_seen}
use Rattle.tn_flags.specs.Views.{event_of}
use Rattle.tn_session.specs.Views.{state_seen}
use Rattle.tn_session.proofs.EventSteps.{effects_case}
use Rattle.tn_session.proofs.state.State.tell_by.Goals as goal

pub returns-clause-reported : goal.returns-clause-reported
returns-clause-reported g c =
    let es = map effect_seen c.args.effects.items in
    effects_case (state_seen c.args.self.now) (state_seen c.affect_all.new.self) (state_seen c.finish.new.self) (event_of c.args.event.now) es _ _
    c.process_of.ensures (c.affect_all.ensures.state ∙ ap (λ xs. all_affected c.process_of.result (state_seen c.args.self.now) (map effect_seen xs)) c.deref.ensures.value)
    c.message_after-message.ensures.message
    (c.in_ok-finish.ensures.state es (sym (c.mark_for-mark.ensures ∙ ap (λ xs. mark_asked (map effect_seen xs)) c.deref-2.ensures.value)))
