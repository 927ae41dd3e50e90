use Rattle.def_term.proofs.Order.{tree_total, tree_exact}
use Rattle.def_term.proofs.order_is_total.Goals as goal

pub returns : goal.returns
returns c = record { total = tree_total; exact = tree_exact }
