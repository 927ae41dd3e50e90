use Rattle.std.proofs.Common.{◌∙◌, map, option_to_list, ap}
use Rattle.std.specs.Option.{option_map}
use Rattle.def_session.specs.State.{flags_at}
use Rattle.def_explain.specs.Accounts.{differs}
use Rattle.tn_flags.specs.Views.{event_of}
use Rattle.tn_session.specs.Sessions.{SessionValue, value_in}
use Rattle.tn_session.specs.Looks.{look_seen}
use Rattle.tn_session.specs.Messages.{message_seen}
use Rattle.tn_explain.proofs.SessionLines.{if_seen, and_there, seen_is, after, state, inherited_made, flags_changed, flags_inherited}
use Rattle.tn_explain.proofs.LineTexts.{other, on_ok}
use Rattle.tn_explain.proofs.line.Lines.put_inheriting.Goals as goal

pub returns-clause-ok : goal.returns-clause-ok
returns-clause-ok g c =
    let n = c.args.self.now.name.now in
    let giver = c.args.giver in
    let taker = c.args.taker in
    on_ok c.put_event_difference.result _ _
    (λ made. if_seen look_seen _ c.in-Some.look _ c.in-Some.ensures (λ (s : SessionValue) is seen l phase both.
    let e = event_of c.args.event.now in
    let m = option_map message_seen c.in_ok-message.message in
    let gives = and_there _ s _ is c.in_ok-message.ensures.reported in
    let past = after s e n (value_in c.tell.new.self) m gives in
    let later = seen_is look_seen _ (record s { state = past }) c.in-Some-look.look (state s e n (value_in c.tell.new.self) m gives) c.in-Some-look.ensures in
    let first = c.flags_at-given_by.ensures ∙ ap (λ x. flags_at x giver) seen in
    let second = c.flags_at.ensures ∙ ap (λ x. flags_at x giver) later in
    let third = c.flags_at-had.ensures ∙ ap (λ x. flags_at x taker) seen in
    let fourth = c.flags_at-2.ensures ∙ ap (λ x. flags_at x taker) later in
    inherited_made s e n (value_in c.tell.new.self) m gives l giver taker _ _ _ _ _ phase both
    (other n _ _ _ _ (flags_changed giver _ (flags_at s.state giver) _ (flags_at past giver) first second) c.in_ok-put_changed.ensures.ok)
    (other n _ _ _ _ (flags_changed taker _ (flags_at s.state taker) _ (flags_at past taker) third fourth) c.in_ok-put_changed-2.ensures.ok)
    c.in_ok-put_message.ensures.ok
    (other n _ _ _ _ (ap (λ x. map differs (option_to_list x)) (c.inherited_difference.ensures ∙ flags_inherited e first second third fourth)) made)))
    c.put_event_difference.ensures.ok
