use Rattle.std.proofs.Common.{◌≡◌, drop, is_some}
use Rattle.def_machine.specs.ExprFolds.{constant_terms}
use Rattle.tn_spec.specs.Views.{exprs_seen}
use Rattle.tn_compile.proofs.folds.are_constants.Given as goal

abbrev pub invariant-loop-expr : goal.invariant-loop-expr
invariant-loop-expr g l = is_some (constant_terms (exprs_seen (drop l.expr-index l.exprs))) ≡ is_some (constant_terms (exprs_seen l.exprs))
