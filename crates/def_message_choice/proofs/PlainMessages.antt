-- The message that a session sends of an event by its trace flag alone.
use Rattle.std.proofs.Common.{Bool, None, if◌then◌else◌, refl, ap, ◌∙◌}
use Rattle.def_spec.specs.Flags.{arity_flag}
use Rattle.def_session.specs.Messages.{process_of, elements_of, message_by}
use Rattle.def_session.specs.State.{Session, Phase, flags_at}
use Rattle.def_session.specs.Session.{inherit, reported_for, reported_in}
use Rattle.def_message_choice.specs.Laws.{PlainMessageHasNoEffects, PlainMessageIsSent, AbsentSendsNone, DestroyedSendsNone}

pub plain_message_has_no_effects : PlainMessageHasNoEffects
plain_message_has_no_effects short e = refl

pub plain_message_is_sent : PlainMessageIsSent
plain_message_is_sent s e there effects loud =
    let t : Session = inherit s e in
    ap (λ (phase : Phase). (reported_in phase s e).1) there
    ∙ ap (λ es. (reported_for t e es).1) effects
    ∙ ap (λ (b : Bool). if b then None else message_by None (elements_of (flags_at t (process_of e) arity_flag) e)) loud

pub absent_sends_none : AbsentSendsNone
absent_sends_none s e is = ap (λ (phase : Phase). (reported_in phase s e).1) is

pub destroyed_sends_none : DestroyedSendsNone
destroyed_sends_none s e is = ap (λ (phase : Phase). (reported_in phase s e).1) is
