use Rattle.std.proofs.Common.{◌≡◌, ◌++◌, map, drop}
use Rattle.tn_term.specs.SharedTree.{shared_tree}
use Rattle.tn_term.specs.Views.{tree_of}
use Rattle.tn_state.proofs.process.push_messages.Given as goal

abbrev pub invariant-loop-message : goal.invariant-loop-message
invariant-loop-message g l = map tree_of l.terms.items ++ map shared_tree (drop l.message-index l.messages) ≡ map tree_of l.fn.terms.items ++ map shared_tree l.messages
