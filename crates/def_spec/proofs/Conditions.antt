-- Values of conditions, part by part: since no effect changes them, they are those of the parts alone.
use Rattle.std.proofs.Common.{◌≡◌, ℕ, List, [], Bool, true, false, Option, Some, None, refl, ap, ◌∙◌, if◌then◌else◌}
use Rattle.std.specs.Option.{option_map, option_and_then}
use Rattle.def_term.specs.Tree.{Tree, tuple, list, of_elements}
use Rattle.def_spec.specs.Matching.{Bindings, value_bound}
use Rattle.def_spec.specs.Functions.{Func, truth, is_true, apply}
use Rattle.def_spec.specs.Expressions.{Dialect, Action, Expr, bound_to, tuple_of, list_of, call, perform, Exprs, and_expr, Context, Effect, in_condition, Evaluation, comes_to, faults, then_on, or_fault, evaluation, evaluation_of_all, evaluation_while_true, evaluation_until_true, its_value, its_effects, value, values}
use Rattle.def_spec.proofs.Values.{before, again, both-values, conditions_have_no_effects, conditions-again, while-again, until-again}

value-again : {X : Type 0} (r : Evaluation X) (x : List Effect) → its_value (again r x) ≡ its_value r
value-again (comes_to t y) x = refl
value-again (faults y) x = refl

-- goes on where the value is true
abbrev pub if_true : Option Tree → Option Tree → Option Tree
if_true None rest = None
if_true (Some t) rest = if is_true t then rest else Some (truth false)

-- goes on where it is another
abbrev pub unless_true : Option Tree → Option Tree → Option Tree
unless_true None rest = None
unless_true (Some t) rest = if is_true t then Some (truth true) else rest

branch-value : (s : Bool) (r q : Evaluation Tree) (o p : Option Tree) → its_value r ≡ o → its_value q ≡ p → its_value (if s then r else q) ≡ (if s then o else p)
branch-value true r q o p e f = e
branch-value false r q o p e f = f

then-value : {X : Type 0} (r : Evaluation X) (f : X → List Effect → Evaluation Tree) (g : X → Option Tree) → ((t : X) (y : List Effect) → its_value (f t y) ≡ g t) → its_value (then_on r f) ≡ option_and_then g (its_value r)
then-value (comes_to t y) f g h = h t y
then-value (faults y) f g h = refl

mapped-value : {X : Type 0} (r : Evaluation X) (g : X → Tree) → its_value (then_on r (λ t y. comes_to (g t) y)) ≡ option_map g (its_value r)
mapped-value (comes_to t y) g = refl
mapped-value (faults y) g = refl

fault-value : {X : Type 0} (o : Option X) (y : List Effect) → its_value (or_fault o y) ≡ o
fault-value None y = refl
fault-value (Some t) y = refl

fault-effects : {X : Type 0} (o : Option X) (y : List Effect) → its_effects (or_fault o y) ≡ y
fault-effects None y = refl
fault-effects (Some t) y = refl

always-fault : (r : Evaluation (List Tree)) → its_value {X = Tree} (then_on r (λ ts y. faults y)) ≡ None
always-fault (comes_to ts y) = refl
always-fault (faults y) = refl

turn-true : (r : Evaluation Tree) (f : List Effect → Evaluation Tree) (o : Option Tree) → ((y : List Effect) → its_value (f y) ≡ o) → its_value (then_on r (λ t y. if is_true t then f y else comes_to (truth false) y)) ≡ if_true (its_value r) o
turn-true (comes_to t y) f o h = branch-value (is_true t) (f y) (comes_to (truth false) y) o (Some (truth false)) (h y) refl
turn-true (faults y) f o h = refl

turn-other : (r : Evaluation Tree) (f : List Effect → Evaluation Tree) (o : Option Tree) → ((y : List Effect) → its_value (f y) ≡ o) → its_value (then_on r (λ t y. if is_true t then comes_to (truth true) y else f y)) ≡ unless_true (its_value r) o
turn-other (comes_to t y) f o h = branch-value (is_true t) (comes_to (truth true) y) (f y) (Some (truth true)) o refl (h y)
turn-other (faults y) f o h = refl

module _ (d : Dialect) (b : Bindings) (c : Context) where
  -- the values of `andalso` and `orelse`
  abbrev pub while_true : Exprs → Option Tree
  while_true es = its_value (evaluation_while_true d in_condition b c es [])

  abbrev pub until_true : Exprs → Option Tree
  until_true es = its_value (evaluation_until_true d in_condition b c es [])

  pub of-bound : (n : ℕ) → value d in_condition b c (bound_to n) ≡ value_bound b n
  of-bound n = fault-value (value_bound b n) []

  pub of-tuple : (es : Exprs) → value d in_condition b c (tuple_of es) ≡ option_map (λ ts. tuple (of_elements ts)) (values d in_condition b c es)
  of-tuple es = mapped-value (evaluation_of_all d in_condition b c es []) (λ ts. tuple (of_elements ts))

  pub of-list : (es : Exprs) → value d in_condition b c (list_of es) ≡ option_map (λ ts. list (of_elements ts)) (values d in_condition b c es)
  of-list es = mapped-value (evaluation_of_all d in_condition b c es []) (λ ts. list (of_elements ts))

  pub of-call : (f : Func) (es : Exprs) → value d in_condition b c (call f es) ≡ option_and_then (λ ts. apply f ts c.self_pid) (values d in_condition b c es)
  of-call f es = then-value (evaluation_of_all d in_condition b c es []) _ (λ ts. apply f ts c.self_pid) (λ ts y. fault-value (apply f ts c.self_pid) y)

  -- after any effects the value is the same, and no effect is added
  pub of-any : (e : Expr) (x : List Effect) → its_value (evaluation d in_condition b c e x) ≡ value d in_condition b c e
  of-any e x = ap its_value (conditions_have_no_effects d b c c.flags e x) ∙ fault-value (value d in_condition b c e) x

  pub none-added : (e : Expr) (x : List Effect) → its_effects (evaluation d in_condition b c e x) ≡ x
  none-added e x = ap its_effects (conditions_have_no_effects d b c c.flags e x) ∙ fault-effects (value d in_condition b c e) x

  -- an action faults
  pub of-action : (a : Action) (es : Exprs) → value d in_condition b c (perform a es) ≡ None
  of-action a es = always-fault (evaluation_of_all d in_condition b c es [])

  pub of-several : (e : Expr) (es : Exprs) → values d in_condition b c (and_expr e es) ≡ before (value d in_condition b c e) (values d in_condition b c es)
  of-several e es =
      both-values (evaluation d in_condition b c e []) (evaluation_of_all d in_condition b c es) (values d in_condition b c es)
      (λ y. ap its_value (conditions-again d b c c.flags es y []) ∙ value-again (evaluation_of_all d in_condition b c es []) y)

  pub of-while : (e : Expr) (es : Exprs) → while_true (and_expr e es) ≡ if_true (value d in_condition b c e) (while_true es)
  of-while e es =
      turn-true (evaluation d in_condition b c e []) (evaluation_while_true d in_condition b c es) (while_true es)
      (λ y. ap its_value (while-again d b c c.flags es y []) ∙ value-again (evaluation_while_true d in_condition b c es []) y)

  pub of-until : (e : Expr) (es : Exprs) → until_true (and_expr e es) ≡ unless_true (value d in_condition b c e) (until_true es)
  of-until e es =
      turn-other (evaluation d in_condition b c e []) (evaluation_until_true d in_condition b c es) (until_true es)
      (λ y. ap its_value (until-again d b c c.flags es y []) ∙ value-again (evaluation_until_true d in_condition b c es []) y)
