use Rattle.std.proofs.Common.{◌∙◌, sym}
use Rattle.std.proofs.lemmas.Result.{on_ok_weaker}
use Rattle.tn_flags.specs.Views.{event_of}
use Rattle.tn_explain.proofs.OneSession.{is_there, tells_absent, tells_asked, tells_only}
use Rattle.tn_explain.proofs.SessionLines.{and_there}
use Rattle.tn_explain.proofs.slots.tell_one.Goals as goal

pub returns-in_default-clause-ok : goal.returns-in_default-clause-ok
returns-in_default-clause-ok g c = λ o living s h. tells_absent c.args.step.now o living s c.args.slot.now h (event_of c.args.event.now) c.args.out.now.items c.in_default.is

pub returns-then-is_asked-clause-ok : goal.returns-then-is_asked-clause-ok
returns-then-is_asked-clause-ok g c = λ o living s h.
    let at = is_there c.args.step.now o living s c.args.slot.now h c.in-Some.session c.in-Some.is in
    on_ok_weaker c.put_event_lines.result
    (λ makes.
    let made = and_there _ _ _ at makes in
    tells_asked c.args.step.now o living s c.args.slot.now h (event_of c.args.event.now) c.args.out.now.items c.put_event_lines.new.session c.put_event_lines.new.out.items (sym c.is_asked_of-is_asked.ensures ∙ c.if-is_asked.true) made.state made.text)
    c.put_event_lines.ensures.ok

pub returns-in_ok-tell-clause-ok : goal.returns-in_ok-tell-clause-ok
returns-in_ok-tell-clause-ok g c = λ o living s h.
    tells_only c.args.step.now o living s c.args.slot.now h (event_of c.args.event.now) c.args.out.now.items c.in-Some.session c.tell.new.self _ c.in-Some.is (sym c.is_asked_of-is_asked.ensures ∙ c.if-is_asked.false)
    c.in_ok-tell.ensures.reported
