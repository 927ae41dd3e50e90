use Rattle.std.proofs.Common.{◌≡◌, map, take}
use Rattle.std.specs.Prelude.{filter}
use Rattle.def_explore.specs.Rests.{is_of_process}
use Rattle.tn_renaming.specs.Pairs.{lent_term_seen, lent_terms_seen}
use Rattle.tn_comparison.proofs.orders.messages_of_process.Given as goal

abbrev pub invariant-loop-message : goal.invariant-loop-message
invariant-loop-message g l = lent_terms_seen l.terms ≡ filter (is_of_process l.pid) (map lent_term_seen (take l.message-index l.messages))
