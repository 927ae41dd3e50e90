use Rattle.std.proofs.Common.{◌∙◌}
use Rattle.tn_session.proofs.PlainMessages.{plain_is, made_is}
use Rattle.tn_session.proofs.event_text.EventText.written_term.Goals as goal

pub returns-in-Some-clause-ok : goal.returns-in-Some-clause-ok
returns-in-Some-clause-ok g c =
    let e = c.args.self.now.event.now in
    c.in_ok-share.ensures
    ∙ made_is e c.args.self.now.plain c.in-Some.plain c.in-Some.is c.args.self.now.is_plain
    ∙ plain_is e c.args.message.now _ c.is_some.ensures c.if-is_some.false (c.is_shortened.ensures.elements c.if-is_shortened.false)

pub returns-clause-ok : goal.returns-clause-ok
returns-clause-ok g c =
    c.in_ok-shared.ensures
    ∙ c.in_ok-plain.ensures.ok
    ∙ plain_is c.args.self.now.event.now c.args.message.now _ c.is_some.ensures c.if-is_some.false (c.is_shortened.ensures.elements c.if-is_shortened.false)
