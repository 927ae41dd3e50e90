use Rattle.std.proofs.Common.{ap, sym, ◌∙◌}
use Rattle.def_term.specs.Tree.{count}
use Rattle.tn_term.specs.Views.{tree_of}
use Rattle.tn_term.proofs.Trees.{count_seen}
use Rattle.tn_guard.specs.Views.{value_seen, list_view_seen}
use Rattle.tn_guard.proofs.list_view.ListView.len.Goals as goal

pub returns-in-Terms-clause-counted : goal.returns-in-Terms-clause-counted
returns-in-Terms-clause-counted g c = c.count_of.ensures.counted ∙ sym (ap (λ p. count (list_view_seen p)) c.in-Terms.is ∙ count_seen tree_of c.in-Terms.items.now)

pub returns-in-Values-clause-counted : goal.returns-in-Values-clause-counted
returns-in-Values-clause-counted g c = sym (ap (λ p. count (list_view_seen p)) c.in-Values.is ∙ count_seen value_seen c.in-Values.items.now)
