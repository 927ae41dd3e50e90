use Rattle.tn_flags.specs.Views.{event_of}
use Rattle.tn_session.proofs.Texts.{twice, front_and_details}
use Rattle.tn_session.proofs.text.put_elements.Goals as goal

pub returns-clause-ok : goal.returns-clause-ok
returns-clause-ok g c = twice _ _ _ _ _ _ c.in_ok-put_front.ensures.ok c.in_ok-put_details.ensures.ok (front_and_details c.args.short (event_of c.args.event.now))
