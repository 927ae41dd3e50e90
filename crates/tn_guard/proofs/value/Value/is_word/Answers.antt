use Rattle.std.proofs.Common.{◌∙◌, sym, ap}
use Rattle.def_term.specs.Tree.{atom}
use Rattle.def_term.specs.Order.{same}
use Rattle.tn_guard.specs.Views.{value_seen}
use Rattle.tn_guard.proofs.Views.{value_seen_lent}
use Rattle.tn_guard.proofs.value.Value.is_word.Goals as goal

pub returns-in-Lent : goal.returns-in-Lent
returns-in-Lent g c = c.is_word.ensures ∙ ap (λ t. same t (atom c.args.text.now)) (sym (ap value_seen c.in-Lent.is ∙ value_seen_lent _))
