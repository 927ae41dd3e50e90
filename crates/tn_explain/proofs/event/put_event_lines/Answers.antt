use Rattle.std.proofs.Common.{◌∙◌, sym, ap}
use Rattle.std.specs.Option.{option_map}
use Rattle.tn_flags.specs.Views.{event_of}
use Rattle.tn_node.specs.Outlooks.{outlook_seen}
use Rattle.tn_session.specs.Sessions.{value_in}
use Rattle.tn_session.specs.Looks.{look_seen, is_live}
use Rattle.tn_session.specs.Messages.{message_seen}
use Rattle.tn_explain.proofs.LaterLines.{is_in_phase}
use Rattle.tn_explain.proofs.SessionLines.{if_seen, and_seen, and_there, nothing_made}
use Rattle.tn_explain.proofs.LineTexts.{on_ok}
use Rattle.tn_explain.proofs.event.put_event_lines.Goals as goal

pub returns-then-not-is_live-clause-ok : goal.returns-then-not-is_live-clause-ok
returns-then-not-is_live-clause-ok g c = if_seen look_seen _ c.in-Some.look _ c.in-Some.ensures (λ s is seen.
    nothing_made s (event_of c.args.event.now) c.args.name.now (value_in c.tell.new.self) (option_map message_seen c.in_ok-tell.field-0) (and_there _ s _ is c.in_ok-tell.ensures.reported) (outlook_seen c.args.outlook) c.args.out.now.items
    (ap (λ x. is_live x.phase) (sym seen) ∙ sym c.is_live.ensures ∙ c.if-not-is_live.true))

pub returns-in-Some-both_of-clause-ok : goal.returns-in-Some-both_of-clause-ok
returns-in-Some-both_of-clause-ok g c =
    on_ok c.put_inheriting.result _ _
    (λ made. and_seen look_seen _ c.in-Some.look _ _ c.in-Some.ensures (λ s seen makes. makes (outlook_seen c.args.outlook)
    (is_in_phase s.state.phase (ap (λ x. is_live x.phase) (sym seen) ∙ sym c.is_live.ensures ∙ c.if-not-is_live.false))
    (sym c.both_of.ensures ∙ c.in-Some-both_of.is)) made)
    c.put_inheriting.ensures.ok

pub returns-in-None-clause-ok : goal.returns-in-None-clause-ok
returns-in-None-clause-ok g c =
    on_ok c.put_evaluated.result _ _
    (λ made. and_seen look_seen _ c.in-Some.look _ _ c.in-Some.ensures (λ s seen makes. makes
    (is_in_phase s.state.phase (ap (λ x. is_live x.phase) (sym seen) ∙ sym c.is_live.ensures ∙ c.if-not-is_live.false))
    (sym c.both_of.ensures ∙ c.in-None.is)) made)
    c.put_evaluated.ensures.ok
