use Rattle.std.proofs.Common.{◌≡◌, drop}
use Rattle.def_fun.specs.Trees.{FunClause}
use Rattle.def_fun.specs.Translation.{with_alternatives}
use Rattle.tn_fun.specs.Clauses.{guards_seen}
use Rattle.tn_spec.specs.Views.{dialect_of}
use Rattle.tn_translation.specs.Scopes.{text_of, IsConditionScope}
use Rattle.tn_translation.specs.Specifications.{clauses_so_far, AreSharedParts}
use Rattle.tn_translation.proofs.alternatives.with_other_guards.Given as goal

abbrev pub invariant-loop-i : goal.invariant-loop-i
invariant-loop-i g l = (k : FunClause) → AreSharedParts (dialect_of l.scope.dialect) k l.shared → IsConditionScope l.scope k →
    with_alternatives (dialect_of l.scope.dialect) k (clauses_so_far l.initial.spec) (guards_seen (text_of l.scope) (drop 1 l.guards.items)) ≡ with_alternatives (dialect_of l.scope.dialect) k (clauses_so_far l.spec) (guards_seen (text_of l.scope) (drop l.i l.guards.items))
