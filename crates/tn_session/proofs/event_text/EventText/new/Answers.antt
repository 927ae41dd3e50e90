use Rattle.def_term.proofs.Same.{same-self}
use Rattle.tn_session.specs.Messages.{plain_message}
use Rattle.tn_session.proofs.event_text.EventText.new.Goals as goal

pub invariant_of-result-clause-is_plain : goal.invariant_of-result-clause-is_plain
invariant_of-result-clause-is_plain g c = same-self (plain_message c.args.event.now)
