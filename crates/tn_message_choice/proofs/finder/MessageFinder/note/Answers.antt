use Rattle.std.proofs.Common.{◌∙◌, MatchBool, sym, ap, subst}
use Rattle.tn_message_choice.specs.Counts.{sent_in, HasNumber, HasNoNumber}
use Rattle.tn_message_choice.proofs.MessageCounts.{found_before, found_here, found_nowhere}
use Rattle.tn_message_choice.proofs.finder.MessageFinder.note.Goals as goal

pub returns-then-is_some-clause-found : goal.returns-then-is_some-clause-found
returns-then-is_some-clause-found g c =
    let old = c.args.self.now in
    found_before c.args.made old.number (sent_in old.session.now old.recorder.slots.items) old.found (sym c.is_some.ensures ∙ c.if-is_some.true)

pub returns-then-reaches-clause-found : goal.returns-then-reaches-clause-found
returns-then-reaches-clause-found g c =
    let old = c.args.self.now in
    let sent = c.sent_by-sent.result in
    let reached = subst (λ b. MatchBool b (HasNumber old.number sent) (HasNoNumber old.number sent)) c.if-reaches.true c.reaches.ensures in
    found_here c.args.made old.number (sent_in old.session.now old.recorder.slots.items) old.found (sym c.is_some.ensures ∙ c.if-is_some.false)
    (subst (HasNumber old.number) (c.sent_by-sent.ensures ∙ ap (sent_in old.session.now) c.deref.ensures.value) reached)

pub returns-else-reaches-clause-found : goal.returns-else-reaches-clause-found
returns-else-reaches-clause-found g c =
    let old = c.args.self.now in
    let sent = c.sent_by-sent.result in
    let lacking = subst (λ b. MatchBool b (HasNumber old.number sent) (HasNoNumber old.number sent)) c.if-reaches.false c.reaches.ensures in
    found_nowhere c.args.made old.number (sent_in old.session.now old.recorder.slots.items) old.found (sym c.is_some.ensures ∙ c.if-is_some.false)
    (subst (HasNoNumber old.number) (c.sent_by-sent.ensures ∙ ap (sent_in old.session.now) c.deref.ensures.value) lacking)
