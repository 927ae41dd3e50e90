use Rattle.tn_term.specs.Views.{alive_of}
use Rattle.tn_explain.proofs.slots.reason_of_one.Goals as goal

pub returns-in_ok-command_reason : goal.returns-in_ok-command_reason
returns-in_ok-command_reason g c = λ o fs s h own. c.in_ok-command_reason.ensures o fs (alive_of c.args.order.now.living) s.1 h.session
