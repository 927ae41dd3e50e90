use Rattle.std.proofs.Common.{◌≡◌, [], drop}
use Rattle.def_fun.specs.Translation.{with_fun_clauses}
use Rattle.tn_fun.specs.Clauses.{fun_clauses_seen}
use Rattle.tn_spec.specs.Views.{dialect_of}
use Rattle.tn_translation.specs.Specifications.{clauses_so_far}
use Rattle.tn_translation.proofs.spec.clauses_of.Given as goal

abbrev pub invariant-loop-clause : goal.invariant-loop-clause
invariant-loop-clause g l =
    with_fun_clauses (dialect_of l.dialect) [] (fun_clauses_seen l.bytes l.clauses.items) ≡ with_fun_clauses (dialect_of l.dialect) (clauses_so_far l.spec) (fun_clauses_seen l.bytes (drop l.clause-index l.clause-items))
