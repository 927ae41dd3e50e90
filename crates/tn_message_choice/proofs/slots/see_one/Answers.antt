use Rattle.std.proofs.Common.{sym, ◌∙◌, ◌≡◌}
use Rattle.std.specs.Option.{option_map}
use Rattle.std.proofs.lemmas.Result.{IfOk-weaker}
use Rattle.def_message_choice.specs.MessageChoices.{chooses_message, chooses}
use Rattle.def_run.specs.Run.{event_item}
use Rattle.def_run.specs.History.{after}
use Rattle.def_session.specs.State.{alive_after}
use Rattle.tn_term.specs.Views.{tree_of}
use Rattle.tn_flags.specs.Views.{event_of}
use Rattle.tn_trace.specs.NamedSessions.{HasState}
use Rattle.tn_message_choice.specs.Choices.{choice_seen, session_asked}
use Rattle.tn_message_choice.proofs.OneSession.{slot_after, asked_chooses, another_chooses_none}
use Rattle.tn_message_choice.proofs.slots.see_one.Goals as goal

pub returns : goal.returns
returns g c = λ o living s h same.
    let q = c.args.question.now in
    let e = event_of c.args.event.now in
    let a = choice_seen q.choice in
    let old = c.args.slot.now in
    let made = c.in_ok-message.ensures o living s.1 h.session in
    let new = c.see_session.new.session in
    let m = option_map tree_of c.in_ok-message.message in
    IfOk-weaker c.chooses.result (λ b. b ≡ chooses_message a c.args.would m) (λ b. HasState o (alive_after living e) (after o s (event_item e)) (record old { session = new }) × (b ≡ chooses a (session_asked q) (event_item e) s))
    (λ b is. (slot_after o living s e old new h made.0, asked_chooses a (session_asked q) e s old.name c.args.would b m h.name (sym c.is_session.ensures ∙ c.if-not-is_session.false) same made.1 is)) c.chooses.ensures

pub returns-then-not-is_session : goal.returns-then-not-is_session
returns-then-not-is_session g c = λ o living s h same.
    let q = c.args.question.now in
    let e = event_of c.args.event.now in
    let old = c.args.slot.now in
    let made = c.in_ok-message.ensures o living s.1 h.session in
    (slot_after o living s e old c.see_session.new.session h made.0, another_chooses_none (choice_seen q.choice) (session_asked q) e s old.name h.name (sym c.is_session.ensures ∙ c.if-not-is_session.true))
