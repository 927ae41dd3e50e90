use Rattle.std.proofs.Common.{◌≡◌, map, take}
use Rattle.tn_renaming.specs.Pairs.{lent_terms_seen}
use Rattle.tn_term.specs.Views.{tree_of}
use Rattle.tn_comparison.proofs.orders.all_of.Given as goal

abbrev pub invariant-loop-message : goal.invariant-loop-message
invariant-loop-message g l = lent_terms_seen l.terms ≡ map tree_of (take l.message-index l.messages)
