-- What follows stays after the code.
use Rattle.std.proofs.Common.{ℕ, suc, ◌+◌, Bool, true, false, if◌then◌else◌, List, ◌∷◌, Option, Some, None}
use Rattle.std.specs.FinMap.{find}
use Rattle.std.proofs.Common.{nat_cmp}
use Rattle.def_spec.specs.Matching.{Pattern, Patterns, variable, anything, only_term, in_tuple, in_list, no_patterns, and_pattern}
use Rattle.def_spec.specs.Expressions.{Dialect, Expr, Exprs, no_exprs, and_expr, bound_to, whole_list, all_bound, constant, tuple_of, list_of, call, and_also, or_else, perform, Position, in_condition, in_body}
use Rattle.def_machine.specs.Instructions.{OnFault, Instruction, load_own_pid, apply_function}
use Rattle.def_machine.specs.Compilation.{VariableRegisters, variables_after, registers_taken, variable_code, pattern_code, each_pattern_code, registers_of, is_on_self, call_code, expr_code, exprs_code, while_true_code, until_true_code}
use Rattle.def_machine.proofs.Runs.{Before, before-self, before-cons, before-trans}

var_front : (o : Option ℕ) (r f : ℕ) (k : List Instruction) → Before (variable_code o r f k) k
var_front None r f k = before-self k
var_front (Some q) r f k = before-cons _ k k (before-self k)

mutual
  pub pattern_front : (p : Pattern) (env : VariableRegisters) (r d f : ℕ) (k : List Instruction) → Before (pattern_code p env r d f k) k
  pattern_front (variable n) env r d f k = var_front (find nat_cmp n env) r f k
  pattern_front anything env r d f k = before-self k
  pattern_front (only_term t) env r d f k = before-cons _ _ k (before-cons _ k k (before-self k))
  pattern_front (in_tuple ps) env r d f k = before-cons _ _ k (before-cons _ _ k (each_front ps env r 0 d f k))
  pattern_front (in_list ps) env r d f k = before-cons _ _ k (before-cons _ _ k (each_front ps env r 0 d f k))

  pub each_front : (ps : Patterns) (env : VariableRegisters) (r i d f : ℕ) (k : List Instruction) → Before (each_pattern_code ps env r i d f k) k
  each_front no_patterns env r i d f k = before-self k
  each_front (and_pattern p ps) env r i d f k = before-cons _ _ k (before-trans _ _ k (pattern_front p env d (suc d) f _) (each_front ps (variables_after p env d (suc d)) r (suc i) (suc d + registers_taken p) f k))

apply_front : (place : Position) (f : ℕ) (i : OnFault → Instruction) (k : List Instruction) → Before (call_code place f i k) k
apply_front in_condition f i k = before-cons _ k k (before-self k)
apply_front in_body f i k = before-cons _ k k (before-self k)

action_front : (s : Bool) (i : Instruction) (own other k : List Instruction) → Before own k → Before other k → Before (if s then i ∷ own else other) k
action_front true i own other k x y = before-cons i own k x
action_front false i own other k x y = y

module _ (dialect : Dialect) (place : Position) (f : ℕ) (env : VariableRegisters) where
  mutual
    pub expr_front : (e : Expr) (d : ℕ) (k : List Instruction) → Before (expr_code dialect place f env e d k) k
    expr_front (bound_to n) d k = before-self k
    expr_front whole_list d k = before-cons _ k k (before-self k)
    expr_front all_bound d k = before-cons _ k k (before-self k)
    expr_front (constant t) d k = before-cons _ k k (before-self k)
    expr_front (tuple_of es) d k = before-trans _ _ k (exprs_front es d _) (before-cons _ k k (before-self k))
    expr_front (list_of es) d k = before-trans _ _ k (exprs_front es d _) (before-cons _ k k (before-self k))
    expr_front (call g es) d k = before-trans _ _ k (exprs_front es d _) (apply_front place f (apply_function g d (registers_of env es d)) k)
    expr_front (and_also es) d k = before-cons _ _ k (before-trans _ _ k (while_front es (suc d) _ _) (before-cons _ k k (before-self k)))
    expr_front (or_else es) d k = before-cons _ _ k (before-trans _ _ k (until_front es (suc d) _ _) (before-cons _ k k (before-self k)))
    expr_front (perform a es) d k = action_front (is_on_self a es) (load_own_pid d) _ _ k (before-trans _ _ k (exprs_front es (suc d) _) (before-cons _ k k (before-self k))) (before-trans _ _ k (exprs_front es d _) (before-cons _ k k (before-self k)))

    pub exprs_front : (es : Exprs) (d : ℕ) (k : List Instruction) → Before (exprs_code dialect place f env es d k) k
    exprs_front no_exprs d k = before-self k
    exprs_front (and_expr e es) d k = before-trans _ _ k (expr_front e d _) (exprs_front es (suc d) k)

    pub while_front : (es : Exprs) (d g : ℕ) (k : List Instruction) → Before (while_true_code dialect place f env es d g k) k
    while_front no_exprs d g k = before-self k
    while_front (and_expr e es) d g k = before-trans _ _ k (expr_front e d _) (before-cons _ _ k (before-cons _ _ k (while_front es d g k)))

    pub until_front : (es : Exprs) (d g : ℕ) (k : List Instruction) → Before (until_true_code dialect place f env es d g k) k
    until_front no_exprs d g k = before-self k
    until_front (and_expr e es) d g k = before-trans _ _ k (expr_front e d _) (before-cons _ _ k (before-cons _ _ k (before-cons _ _ k (until_front es d g k))))
