use Rattle.std.proofs.Common.{◌≡◌, map, take}
use Rattle.std.specs.Prelude.{filter}
use Rattle.def_explore.specs.Rests.{is_of_process}
use Rattle.tn_renaming.specs.Pairs.{lent_term_seen, lent_terms_seen}
use Rattle.tn_comparison.proofs.orders.messages_of_each.Given as goal

abbrev pub invariant-loop-pid : goal.invariant-loop-pid
invariant-loop-pid g l = map lent_terms_seen l.orders.items ≡ map (λ n. filter (is_of_process n) (map lent_term_seen l.messages)) (take l.pid-index l.processes)
