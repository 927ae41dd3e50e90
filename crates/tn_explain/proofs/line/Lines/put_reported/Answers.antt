use Rattle.std.proofs.Common.{◌∙◌, ◌∷◌, [], codes, true, false, sym, ap}
use Rattle.std.specs.Option.{option_map}
use Rattle.def_session.specs.Session.{is_silenced}
use Rattle.def_explain.specs.Accounts.{said}
use Rattle.tn_flags.specs.Views.{event_of}
use Rattle.tn_session.specs.Sessions.{SessionValue}
use Rattle.tn_session.specs.Looks.{look_seen}
use Rattle.tn_session.specs.Messages.{message_seen}
use Rattle.tn_explain.specs.Evaluations.{is_done}
use Rattle.tn_explain.specs.LineParts.{reported_lines}
use Rattle.tn_explain.proofs.SessionLines.{told_none, if_there, seen_is}
use Rattle.tn_explain.proofs.LineTexts.{nothing, other, on_ok}
use Rattle.tn_explain.proofs.line.Lines.put_reported.Goals as goal

pub returns-in_default-clause-ok : goal.returns-in_default-clause-ok
returns-in_default-clause-ok g c = if_there _ _ (λ (s : SessionValue) is.
    let n = c.args.self.now.name.now in
    let o = c.args.out.now.items in
    let m = option_map message_seen c.args.message.now in
    other n [] (reported_lines (is_done c.args.evaluation) (is_silenced s.state (event_of c.args.event.now)) m) o o
    (sym (ap (λ b. reported_lines b (is_silenced s.state (event_of c.args.event.now)) m) (ap is_done c.in_default.is))) (nothing n o))

pub returns-then-is_silenced-clause-ok : goal.returns-then-is_silenced-clause-ok
returns-then-is_silenced-clause-ok g c =
    let n = c.args.self.now.name.now in
    let e = event_of c.args.event.now in
    on_ok c.say.result _ _
    (λ made. if_there _ _ (λ (s : SessionValue) is. other n (said (codes "silent") ∷ []) _ _ _
    (sym (told_none (is_done c.args.evaluation) (is_silenced s.state e) true (option_map message_seen c.args.message.now) (ap is_done c.in-Done.is)
    (ap (λ x. is_silenced x e) (sym (seen_is look_seen _ s c.in-Some-look.look is c.in-Some-look.ensures)) ∙ sym c.is_silenced.ensures ∙ c.if-is_silenced.true) (ap (option_map message_seen) c.in_default-message.is))) made))
    c.say.ensures.ok

pub returns-else-is_silenced-clause-ok : goal.returns-else-is_silenced-clause-ok
returns-else-is_silenced-clause-ok g c =
    let n = c.args.self.now.name.now in
    let e = event_of c.args.event.now in
    on_ok c.say-else-is_silenced.result _ _
    (λ made. if_there _ _ (λ (s : SessionValue) is. other n (said (codes "message false") ∷ []) _ _ _
    (sym (told_none (is_done c.args.evaluation) (is_silenced s.state e) false (option_map message_seen c.args.message.now) (ap is_done c.in-Done.is)
    (ap (λ x. is_silenced x e) (sym (seen_is look_seen _ s c.in-Some-look.look is c.in-Some-look.ensures)) ∙ sym c.is_silenced.ensures ∙ c.if-is_silenced.false) (ap (option_map message_seen) c.in_default-message.is))) made))
    c.say-else-is_silenced.ensures.ok
