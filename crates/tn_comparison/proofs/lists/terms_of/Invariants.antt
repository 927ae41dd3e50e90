use Rattle.std.proofs.Common.{◌≡◌, map, take}
use Rattle.tn_messages.specs.MessageViews.{message_tree}
use Rattle.tn_renaming.specs.Pairs.{lent_terms_seen}
use Rattle.tn_comparison.proofs.lists.terms_of.Given as goal

abbrev pub invariant-loop-message : goal.invariant-loop-message
invariant-loop-message g l = lent_terms_seen l.terms ≡ map message_tree (take l.message-index l.messages)
