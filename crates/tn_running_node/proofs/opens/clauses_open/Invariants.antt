use Rattle.std.proofs.Common.{◌≡◌}
use Rattle.tn_spec.specs.Views.{dialect_of}
use Rattle.tn_action.specs.Views.{context_seen}
use Rattle.tn_running_node.proofs.OpenClauses.{differences_from}
use Rattle.tn_running_node.proofs.opens.clauses_open.Given as goal

abbrev pub invariant-loop-i : goal.invariant-loop-i
invariant-loop-i g l = differences_from (dialect_of l.spec.dialect) (context_seen l.context) l.clauses.items l.i ≡ differences_from (dialect_of l.spec.dialect) (context_seen l.context) l.clauses.items 0
