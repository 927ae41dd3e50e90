-- How large a specification is: its patterns and expressions, each counted once.
use Rattle.std.specs.Prelude.{ℕ, ◌+◌, List, [], ◌∷◌}
use Rattle.def_spec.specs.Matching.{Pattern, variable, anything, only_term, in_tuple, in_list, Patterns, no_patterns, and_pattern}
use Rattle.def_spec.specs.Expressions.{Expr, bound_to, whole_list, all_bound, constant, tuple_of, list_of, call, and_also, or_else, perform, Exprs, no_exprs, and_expr}
use Rattle.def_spec.specs.Outcome.{Clause, Spec}

abbrev mutual
  pub pattern_size : Pattern → ℕ
  pattern_size (variable n) = 1
  pattern_size anything = 1
  pattern_size (only_term t) = 1
  pattern_size (in_tuple ps) = 1 + patterns_size ps
  pattern_size (in_list ps) = 1 + patterns_size ps

  pub patterns_size : Patterns → ℕ
  patterns_size no_patterns = 0
  patterns_size (and_pattern p ps) = pattern_size p + patterns_size ps

abbrev mutual
  pub expr_size : Expr → ℕ
  expr_size (bound_to n) = 1
  expr_size whole_list = 1
  expr_size all_bound = 1
  expr_size (constant t) = 1
  expr_size (tuple_of es) = 1 + exprs_size es
  expr_size (list_of es) = 1 + exprs_size es
  expr_size (call f es) = 1 + exprs_size es
  expr_size (and_also es) = 1 + exprs_size es
  expr_size (or_else es) = 1 + exprs_size es
  expr_size (perform a es) = 1 + exprs_size es

  pub exprs_size : Exprs → ℕ
  exprs_size no_exprs = 0
  exprs_size (and_expr e es) = expr_size e + exprs_size es

abbrev pub clause_size : Clause → ℕ
clause_size k = pattern_size k.head + (exprs_size k.conditions + exprs_size k.body)

abbrev pub clauses_size : List Clause → ℕ
clauses_size [] = 0
clauses_size (k ∷ ks) = clause_size k + clauses_size ks

abbrev pub spec_size : Spec → ℕ
spec_size s = clauses_size s.clauses
