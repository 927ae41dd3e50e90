use Rattle.std.proofs.Common.{◌≡◌, sym, subst}
use Rattle.std.specs.Option.{IsSomeAnd, option_map}
use Rattle.std.specs.Prelude.{Some}
use Rattle.std.proofs.lemmas.Result.{IfOk-weaker}
use Rattle.def_session.specs.State.{alive_after}
use Rattle.def_session.specs.Session.{event_reported}
use Rattle.tn_term.specs.Views.{tree_of}
use Rattle.tn_flags.specs.Views.{event_of}
use Rattle.tn_session.specs.Sessions.{value_in, next_session}
use Rattle.tn_trace.specs.Slots.{IsSession}
use Rattle.tn_message_choice.proofs.OneSession.{HasSeen, none_sees, some_sees}
use Rattle.tn_message_choice.proofs.slots.see_session.Goals as goal

pub returns-in-Some : goal.returns-in-Some
returns-in-Some g c = λ o living s is.
    let e = event_of c.args.event.now in
    let new = c.event.new.self in
    let before = c.in-Some.session in
    IfOk-weaker c.event.result (λ m. IsSomeAnd (value_in before) (λ v. next_session v (event_reported v.state e) ≡ (value_in new, option_map tree_of m)))
    (λ m. HasSeen o.functions living s e (Some new) (option_map tree_of m))
    (λ m reports. some_sees o.functions living s e before new (option_map tree_of m) (subst (IsSession o.functions living s) c.in-Some.is is) reports) c.event.ensures.reported

pub returns-in-None : goal.returns-in-None
returns-in-None g c = λ o living s is.
    let e = event_of c.args.event.now in
    let none = none_sees living s e (subst (IsSession o.functions living s) c.in-None.is is) in
    (subst (IsSession o.functions (alive_after living e) (event_reported s e).0) (sym c.in-None.is) none.0, none.1)
