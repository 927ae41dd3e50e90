-- The messages of a trace that are in an order.
-- Depends on traces.
use Rattle.std.specs.Prelude.{◌≡◌, List, [], ◌∷◌, map, filter}
use Rattle.def_term.specs.Tree.{Tree}
use Rattle.def_explore.specs.Rests.{is_of_process}
use Rattle.def_compare.specs.Traces.{trace_processes}
use Rattle.tn_renaming.specs.Pairs.{lent_terms_seen}
use Rattle.tn_comparison.specs.declared.orders.TraceOrders.{TraceOrders}

-- all of these messages, and those of each process
pub record AreTraceOrders {P A : Type 0} (ms : List Tree) (o : TraceOrders P A) : Type 0 where
  pub all : map lent_terms_seen o.all.items ≡ ms ∷ []
  pub by_process : map lent_terms_seen o.by_process.items ≡ map (λ n. filter (is_of_process n) ms) (trace_processes ms)
