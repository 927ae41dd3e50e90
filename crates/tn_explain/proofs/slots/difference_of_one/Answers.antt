use Rattle.tn_term.specs.Views.{alive_of}
use Rattle.tn_explain.proofs.slots.difference_of_one.Goals as goal

pub returns-in_ok-command_difference : goal.returns-in_ok-command_difference
returns-in_ok-command_difference g c = λ o fs s h own. c.in_ok-command_difference.ensures o fs (alive_of c.args.order.now.living) s.1 h.session
