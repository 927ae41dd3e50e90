use Rattle.std.proofs.Common.{◌∙◌, sym, ap}
use Rattle.def_term.specs.Tree.{list, more, none}
use Rattle.def_running_node.specs.NodeReplies.{option_term}
use Rattle.tn_running_node.proofs.arguments.option_term.Goals as goal

pub returns-then-local : goal.returns-then-local
returns-then-local g c = c.in_ok-list_of.ensures ∙ ap (λ t. list (more t none)) c.in_ok-word.ensures ∙ ap option_term (sym c.if-local.true)

pub returns : goal.returns
returns g c = c.in_ok-list_of-2.ensures ∙ ap (λ t. list (more t none)) c.in_ok-word-2.ensures ∙ ap option_term (sym c.if-local.false)
