use Rattle.std.proofs.Common.{◌≡◌, map, option_map}
use Rattle.def_spec.specs.Laws.{trees_before}
use Rattle.def_machine.specs.ExprFolds.{constant_terms}
use Rattle.tn_term.specs.Views.{tree_of}
use Rattle.tn_spec.specs.Views.{exprs_seen}
use Rattle.tn_compile.proofs.folds.constant_terms.Given as goal

abbrev pub invariant-loop-expr : goal.invariant-loop-expr
invariant-loop-expr g l = option_map (trees_before (map tree_of l.terms.items)) (constant_terms (exprs_seen l.expr-iterator.rest.items)) ≡ constant_terms (exprs_seen l.fn.exprs.items)
