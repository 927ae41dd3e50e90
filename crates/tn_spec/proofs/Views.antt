-- What each kind of pattern and expression is seen as, for the crates above.
use Rattle.std.proofs.Common.{◌≡◌, ℕ, rules}
use Rattle.std.specs.declared.vec.Vec.{Vec}
use Rattle.def_spec.specs.Matching as matching
use Rattle.def_spec.specs.Expressions as ex
use Rattle.tn_term.specs.Views.{tree_of}
use Rattle.tn_term.specs.declared.term.Term.{Term}
use Rattle.tn_spec.specs.declared.func.Func.{Func}
use Rattle.tn_spec.specs.declared.func.Action.{Action}
use Rattle.tn_spec.specs.declared.pattern.Pattern as pattern
use Rattle.tn_spec.specs.declared.pattern.Pattern.{Pattern}
use Rattle.tn_spec.specs.declared.expr.Expr as expr
use Rattle.tn_spec.specs.declared.expr.Expr.{Expr}
use Rattle.tn_spec.specs.Views.{func_of, action_of, pattern_seen, pattern_list, expr_seen, expr_list}

pub pattern_seen_variable : (A : Type 0) (n : ℕ) → pattern_seen {A = A} (pattern.Variable n) ≡ matching.variable n
pattern_seen_variable A n = search (rules, pattern.the_lemmas)

pub pattern_seen_anything : (A : Type 0) → pattern_seen {A = A} pattern.Anything ≡ matching.anything
pattern_seen_anything A = search (rules, pattern.the_lemmas)

pub pattern_seen_only : {A : Type 0} (t : Term A) → pattern_seen (pattern.Only t) ≡ matching.only_term (tree_of t)
pattern_seen_only t = search (rules, pattern.the_lemmas)

pub pattern_seen_tuple : {A : Type 0} (v : Vec (Pattern A) A) → pattern_seen (pattern.Tuple v) ≡ matching.in_tuple (pattern_list v)
pattern_seen_tuple v = search (rules, pattern.the_lemmas)

pub pattern_seen_list : {A : Type 0} (v : Vec (Pattern A) A) → pattern_seen (pattern.List v) ≡ matching.in_list (pattern_list v)
pattern_seen_list v = search (rules, pattern.the_lemmas)

pub expr_seen_variable : (A : Type 0) (n : ℕ) → expr_seen {A = A} (expr.Variable n) ≡ ex.bound_to n
expr_seen_variable A n = search (rules, expr.the_lemmas)

pub expr_seen_whole_list : (A : Type 0) → expr_seen {A = A} expr.WholeList ≡ ex.whole_list
expr_seen_whole_list A = search (rules, expr.the_lemmas)

pub expr_seen_all_bound : (A : Type 0) → expr_seen {A = A} expr.AllBound ≡ ex.all_bound
expr_seen_all_bound A = search (rules, expr.the_lemmas)

pub expr_seen_constant : {A : Type 0} (t : Term A) → expr_seen (expr.Constant t) ≡ ex.constant (tree_of t)
expr_seen_constant t = search (rules, expr.the_lemmas)

pub expr_seen_tuple : {A : Type 0} (v : Vec (Expr A) A) → expr_seen (expr.Tuple v) ≡ ex.tuple_of (expr_list v)
expr_seen_tuple v = search (rules, expr.the_lemmas)

pub expr_seen_list : {A : Type 0} (v : Vec (Expr A) A) → expr_seen (expr.List v) ≡ ex.list_of (expr_list v)
expr_seen_list v = search (rules, expr.the_lemmas)

pub expr_seen_call : {A : Type 0} (f : Func) (v : Vec (Expr A) A) → expr_seen (expr.Call f v) ≡ ex.call (func_of f) (expr_list v)
expr_seen_call f v = search (rules, expr.the_lemmas)

pub expr_seen_and_also : {A : Type 0} (v : Vec (Expr A) A) → expr_seen (expr.AndAlso v) ≡ ex.and_also (expr_list v)
expr_seen_and_also v = search (rules, expr.the_lemmas)

pub expr_seen_or_else : {A : Type 0} (v : Vec (Expr A) A) → expr_seen (expr.OrElse v) ≡ ex.or_else (expr_list v)
expr_seen_or_else v = search (rules, expr.the_lemmas)

pub expr_seen_perform : {A : Type 0} (a : Action) (v : Vec (Expr A) A) → expr_seen (expr.Perform a v) ≡ ex.perform (action_of a) (expr_list v)
expr_seen_perform a v = search (rules, expr.the_lemmas)
