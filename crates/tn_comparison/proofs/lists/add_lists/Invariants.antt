use Rattle.std.proofs.Common.{◌≡◌, ◌++◌, map, take}
use Rattle.tn_messages.specs.MessageViews.{trees_seen}
use Rattle.tn_renaming.specs.Pairs.{lent_terms_seen}
use Rattle.tn_comparison.proofs.lists.add_lists.Given as goal

abbrev pub invariant-loop-list : goal.invariant-loop-list
invariant-loop-list g l = map lent_terms_seen l.lists.items ≡ map lent_terms_seen l.fn.lists.items ++ map trees_seen (take l.list-index l.messages)
