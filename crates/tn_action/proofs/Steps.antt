-- What several expressions come to, one expression after another, and the clauses that fire.
use Rattle.std.proofs.Common.{◌≡◌, ◌∙◌, sym, ap, refl, ℕ, ◌+◌, ◌<◌, ◌≤◌, Bool, true, false, ◌&&◌, if◌then◌else◌, List, [], ◌∷◌, ◌++◌, length, get_or, drop, map, Option, Some, None, append_assoc, append-nil, pos, Result}
use Rattle.std.specs.Option.{option_map, option_and_then}
use Rattle.std.specs.Result.{IfOk}
use Rattle.std.specs.declared.alloc.Allocator.{Ghosts}
use Rattle.std.proofs.lemmas.List.{drop_more, drop_all}
use Rattle.std.proofs.lemmas.Result.{IfOk-weaker}
use Rattle.tn_guard.specs.declared.value.Value.{Value}
use Rattle.def_term.specs.Tree.{Tree, int, atom, tuple, none, more}
use Rattle.def_term.specs.Names.{Mfa, mfa_term}
use Rattle.def_spec.specs.Functions.{truth, is_true}
use Rattle.def_spec.specs.Flags.{Flag, Flags, no_flags, only}
use Rattle.def_spec.specs.Matching.{Bindings, bindings_of}
use Rattle.def_spec.specs.Outcome.{Clause, Outcome, matched, matched_term, each_true, firing_bindings, or_next}
use Rattle.def_spec.specs.Expressions as ex
use Rattle.def_spec.specs.Expressions.{Expr, Exprs, no_exprs, and_expr, Effect, is_true_value, values_bound, Evaluation, comes_to, faults, then_on, or_fault, its_value, its_effects, evaluation, evaluation_of_all}
use Rattle.def_spec.proofs.Conditions.{of-any}
use Rattle.tn_spec.specs.Views.{expr_seen, exprs_seen}
use Rattle.tn_spec.specs.declared.expr.Expr as code
use Rattle.tn_guard.specs.Views.{value_seen}
use Rattle.tn_head.specs.Views.{binding_seen}
use Rattle.tn_head.specs.declared.bindings.Binding.{Binding}
use Rattle.tn_action.specs.EvalContexts.{evaluation_in, all_in, while_true_in, until_true_in}
use Rattle.tn_action.specs.declared.eval_context.EvalContext.{EvalContext}

-- ---- the expressions of a vector

pub exprs_here : {A : Type 0} (es : List (code.Expr A)) (i : ℕ) (e : code.Expr A) → i < length es → e ≡ get_or es i e → exprs_seen (drop i es) ≡ and_expr (expr_seen e) (exprs_seen (drop (i + 1) es))
exprs_here es i e below is = ap exprs_seen (drop_more es i e below) ∙ ap (λ f. and_expr (expr_seen f) (exprs_seen (drop (i + 1) es))) (sym is)

pub exprs_past : {A : Type 0} (es : List (code.Expr A)) (i : ℕ) → length es ≤ i → exprs_seen (drop i es) ≡ no_exprs
exprs_past es i past = ap exprs_seen (drop_all i es past)

-- ---- results

-- a result's value comes to this too
pub comes_as : {A E : Type 0} (r : Result (Option (Value A)) E) (x : List Effect) (one other : Evaluation Tree) → one ≡ other
    → IfOk r (λ v. or_fault (option_map value_seen v) x ≡ one) → IfOk r (λ v. or_fault (option_map value_seen v) x ≡ other)
comes_as r x one other e h = IfOk-weaker r (λ v. or_fault (option_map value_seen v) x ≡ one) (λ v. or_fault (option_map value_seen v) x ≡ other) (λ v k. k ∙ e) h

-- what a result's value comes to
pub valued_as : {A E : Type 0} (r : Result (Option (Value A)) E) (x : List Effect) (o : Option Tree) (whole : Evaluation Tree) → or_fault o x ≡ whole
    → IfOk r (λ v. option_map value_seen v ≡ o) → IfOk r (λ v. or_fault (option_map value_seen v) x ≡ whole)
valued_as r x o whole e h = IfOk-weaker r (λ v. option_map value_seen v ≡ o) (λ v. or_fault (option_map value_seen v) x ≡ whole) (λ v k. ap (λ p. or_fault p x) k ∙ e) h

-- ---- evaluations

pub mapped : {X : Type 0} (o : Option X) (f : X → Tree) (x : List Effect) → or_fault (option_map f o) x ≡ then_on (or_fault o x) (λ t y. comes_to (f t) y)
mapped None f x = refl
mapped (Some t) f x = refl

pub answered_value : {X : Type 0} (o : Option X) (x : List Effect) → its_value (or_fault o x) ≡ o
answered_value None x = refl
answered_value (Some t) x = refl

-- values in front of those of the others
abbrev pub behind : List Tree → Evaluation (List Tree) → Evaluation (List Tree)
behind ts r = then_on r (λ us z. comes_to (ts ++ us) z)

pub after_none : (r : Evaluation (List Tree)) → behind [] r ≡ r
after_none (comes_to ts x) = refl
after_none (faults x) = refl

after_one : (ts : List Tree) (t : Tree) (r : Evaluation (List Tree)) → behind ts (then_on r (λ us z. comes_to (t ∷ us) z)) ≡ behind (ts ++ t ∷ []) r
after_one ts t (comes_to us x) = ap (λ l. comes_to l x) (sym (append_assoc ts (t ∷ []) us))
after_one ts t (faults x) = refl

-- ---- variables

pub each_bound : {A : Type 0} (bs : List (Binding A)) → values_bound (map binding_seen bs) ≡ map (λ b. value_seen b.value) bs
each_bound [] = refl
each_bound (b ∷ bs) = ap (λ ts. value_seen b.value ∷ ts) (each_bound bs)

-- ---- several expressions

module _ {A : Type 0} {G : Ghosts A} (s : EvalContext A G) (all : Exprs) (e : Expr) (es : Exprs) (old new : List Effect) (here : all ≡ and_expr e es) where
  -- all of them, where the first has a value, and where it faults
  pub all_go_on : (ts us : List Tree) (t : Tree) (whole : Evaluation (List Tree)) → comes_to t new ≡ evaluation_in s e old → us ≡ ts ++ t ∷ []
      → behind ts (all_in s all old) ≡ whole → behind us (all_in s es new) ≡ whole
  all_go_on ts us t whole is more_of h =
      ap (λ l. behind l (all_in s es new)) more_of
      ∙ sym (after_one ts t (all_in s es new))
      ∙ ap (λ r. behind ts (then_on r (λ u y. then_on (all_in s es y) (λ us z. comes_to (u ∷ us) z)))) is
      ∙ ap (λ xs. behind ts (all_in s xs old)) (sym here)
      ∙ h

  pub all_fault : (ts : List Tree) (whole : Evaluation (List Tree)) → faults new ≡ evaluation_in s e old → behind ts (all_in s all old) ≡ whole → faults new ≡ whole
  all_fault ts whole is h =
      ap (λ r. behind ts (then_on r (λ u y. then_on (all_in s es y) (λ us z. comes_to (u ∷ us) z)))) is
      ∙ ap (λ xs. behind ts (all_in s xs old)) (sym here)
      ∙ h

  -- up to the first that isn't true
  pub while_goes_on : (t : Tree) (whole : Evaluation Tree) → comes_to t new ≡ evaluation_in s e old → is_true t ≡ true → while_true_in s all old ≡ whole → while_true_in s es new ≡ whole
  while_goes_on t whole is holds h =
      ap (λ q. if q then while_true_in s es new else comes_to (truth false) new) (sym holds)
      ∙ ap (λ r. then_on r (λ u y. if is_true u then while_true_in s es y else comes_to (truth false) y)) is
      ∙ ap (λ xs. while_true_in s xs old) (sym here)
      ∙ h

  pub while_stops : (t : Tree) (whole : Evaluation Tree) → comes_to t new ≡ evaluation_in s e old → is_true t ≡ false → while_true_in s all old ≡ whole → comes_to (truth false) new ≡ whole
  while_stops t whole is holds h =
      ap (λ q. if q then while_true_in s es new else comes_to (truth false) new) (sym holds)
      ∙ ap (λ r. then_on r (λ u y. if is_true u then while_true_in s es y else comes_to (truth false) y)) is
      ∙ ap (λ xs. while_true_in s xs old) (sym here)
      ∙ h

  pub while_faults : (whole : Evaluation Tree) → faults new ≡ evaluation_in s e old → while_true_in s all old ≡ whole → faults new ≡ whole
  while_faults whole is h =
      ap (λ r. then_on r (λ u y. if is_true u then while_true_in s es y else comes_to (truth false) y)) is
      ∙ ap (λ xs. while_true_in s xs old) (sym here)
      ∙ h

  -- up to the first that is true
  pub until_goes_on : (t : Tree) (whole : Evaluation Tree) → comes_to t new ≡ evaluation_in s e old → is_true t ≡ false → until_true_in s all old ≡ whole → until_true_in s es new ≡ whole
  until_goes_on t whole is holds h =
      ap (λ q. if q then comes_to (truth true) new else until_true_in s es new) (sym holds)
      ∙ ap (λ r. then_on r (λ u y. if is_true u then comes_to (truth true) y else until_true_in s es y)) is
      ∙ ap (λ xs. until_true_in s xs old) (sym here)
      ∙ h

  pub until_stops : (t : Tree) (whole : Evaluation Tree) → comes_to t new ≡ evaluation_in s e old → is_true t ≡ true → until_true_in s all old ≡ whole → comes_to (truth true) new ≡ whole
  until_stops t whole is holds h =
      ap (λ q. if q then comes_to (truth true) new else until_true_in s es new) (sym holds)
      ∙ ap (λ r. then_on r (λ u y. if is_true u then comes_to (truth true) y else until_true_in s es y)) is
      ∙ ap (λ xs. until_true_in s xs old) (sym here)
      ∙ h

  pub until_faults : (whole : Evaluation Tree) → faults new ≡ evaluation_in s e old → until_true_in s all old ≡ whole → faults new ≡ whole
  until_faults whole is h =
      ap (λ r. then_on r (λ u y. if is_true u then comes_to (truth true) y else until_true_in s es y)) is
      ∙ ap (λ xs. until_true_in s xs old) (sym here)
      ∙ h

module _ {A : Type 0} {G : Ghosts A} (s : EvalContext A G) (all : Exprs) (x : List Effect) (past : all ≡ no_exprs) where
  -- at the end of the expressions
  pub all_done : (ts : List Tree) (whole : Evaluation (List Tree)) → behind ts (all_in s all x) ≡ whole → comes_to ts x ≡ whole
  all_done ts whole h = ap (λ l. comes_to l x) (sym (append-nil ts)) ∙ ap (λ xs. behind ts (all_in s xs x)) (sym past) ∙ h

  pub while_done : (whole : Evaluation Tree) → while_true_in s all x ≡ whole → comes_to (truth true) x ≡ whole
  while_done whole h = ap (λ xs. while_true_in s xs x) (sym past) ∙ h

  pub until_done : (whole : Evaluation Tree) → until_true_in s all x ≡ whole → comes_to (truth false) x ≡ whole
  until_done whole h = ap (λ xs. until_true_in s xs x) (sym past) ∙ h

-- ---- bodies and conditions

last_effects : (r : Evaluation (List Tree)) (t : Tree) → its_effects (then_on r (λ us z. comes_to (t ∷ us) z)) ≡ its_effects r
last_effects (comes_to us z) t = refl
last_effects (faults z) t = refl

module _ (d : ex.Dialect) (b : Bindings) (c : ex.Context) (all : Exprs) (e : Expr) (es : Exprs) (old new : List Effect) (here : all ≡ and_expr e es) where
  pub body_goes_on : (t : Tree) (whole : List Effect) → comes_to t new ≡ evaluation d ex.in_body b c e old
      → its_effects (evaluation_of_all d ex.in_body b c all old) ≡ whole → its_effects (evaluation_of_all d ex.in_body b c es new) ≡ whole
  body_goes_on t whole is h =
      sym (last_effects (evaluation_of_all d ex.in_body b c es new) t)
      ∙ ap (λ r. its_effects (then_on r (λ u y. then_on (evaluation_of_all d ex.in_body b c es y) (λ us z. comes_to (u ∷ us) z)))) is
      ∙ ap (λ xs. its_effects (evaluation_of_all d ex.in_body b c xs old)) (sym here)
      ∙ h

  pub body_faults : (whole : List Effect) → faults new ≡ evaluation d ex.in_body b c e old → its_effects (evaluation_of_all d ex.in_body b c all old) ≡ whole → new ≡ whole
  body_faults whole is h =
      ap (λ r. its_effects (then_on r (λ u y. then_on (evaluation_of_all d ex.in_body b c es y) (λ us z. comes_to (u ∷ us) z)))) is
      ∙ ap (λ xs. its_effects (evaluation_of_all d ex.in_body b c xs old)) (sym here)
      ∙ h

module _ (d : ex.Dialect) (b : Bindings) (c : ex.Context) where
  pub body_done : (all : Exprs) (x whole : List Effect) → all ≡ no_exprs → its_effects (evaluation_of_all d ex.in_body b c all x) ≡ whole → x ≡ whole
  body_done all x whole past h = ap (λ xs. its_effects (evaluation_of_all d ex.in_body b c xs x)) (sym past) ∙ h

  -- the value of a condition, whatever effects there are
  pub condition_value : (e : Expr) (o : Option Tree) (old new : List Effect) → or_fault o new ≡ evaluation d ex.in_condition b c e old → ex.value d ex.in_condition b c e ≡ o
  condition_value e o old new is = sym (of-any d b c e old) ∙ sym (ap its_value is) ∙ answered_value o new

  first_or_rest : (q known : Bool) (r : Evaluation Tree) (y : List Effect) → is_true_value (its_value r) ≡ known → is_true_value (its_value (if q then r else comes_to (truth false) y)) ≡ (q && known)
  first_or_rest true known r y is = is
  first_or_rest false known r y is = refl

  first_then_rest : (r : Evaluation Tree) (v : Option Tree) (es : Exprs) → its_value r ≡ v → ((y : List Effect) → is_true_value (its_value (ex.evaluation_while_true d ex.in_condition b c es y)) ≡ each_true d b c es)
      → is_true_value (its_value (then_on r (λ t y. if is_true t then ex.evaluation_while_true d ex.in_condition b c es y else comes_to (truth false) y))) ≡ (is_true_value v && each_true d b c es)
  first_then_rest (faults y) v es is rest = ap (λ w. is_true_value w && each_true d b c es) is
  first_then_rest (comes_to t y) v es is rest =
      first_or_rest (is_true t) (each_true d b c es) (ex.evaluation_while_true d ex.in_condition b c es y) y (rest y) ∙ ap (λ w. is_true_value w && each_true d b c es) is

  -- whether `andalso` of conditions is true, whatever effects there are
  while_each_true : (es : Exprs) (old : List Effect) → is_true_value (its_value (ex.evaluation_while_true d ex.in_condition b c es old)) ≡ each_true d b c es
  while_each_true no_exprs old = refl
  while_each_true (and_expr e es) old = first_then_rest (ex.evaluation d ex.in_condition b c e old) (ex.value d ex.in_condition b c e) es (of-any d b c e old) (λ y. while_each_true es y)

  pub each_true_from : (es : Exprs) (o : Option Tree) (old new : List Effect) → or_fault o new ≡ ex.evaluation_while_true d ex.in_condition b c es old → is_true_value o ≡ each_true d b c es
  each_true_from es o old new is = sym (ap is_true_value (answered_value o new)) ∙ ap (λ r. is_true_value (its_value r)) is ∙ while_each_true es old

-- ---- clauses

module _ (d : ex.Dialect) (c : ex.Context) (k : Clause) where
  abbrev fires_with : Option Bindings → Outcome → Outcome
  fires_with r o = or_next d (option_and_then (λ b. if each_true d b c k.conditions then Some b else None) r) c k.body o

  pub not_bound : None ≡ bindings_of k.head (matched_term c) → (o : Outcome) → or_next d (firing_bindings d k c) c k.body o ≡ o
  not_bound e o = ap (λ r. fires_with r o) (sym e)

  pub not_true : (b : Bindings) → Some b ≡ bindings_of k.head (matched_term c) → false ≡ each_true d b c k.conditions → (o : Outcome) → or_next d (firing_bindings d k c) c k.body o ≡ o
  not_true b e h o = ap (λ r. fires_with r o) (sym e) ∙ ap (λ q. or_next d (if q then Some b else None) c k.body o) (sym h)

  pub fires : (b : Bindings) (es : List Effect) → Some b ≡ bindings_of k.head (matched_term c) → true ≡ each_true d b c k.conditions → es ≡ ex.effects_of_all d b c k.body → (o : Outcome) → or_next d (firing_bindings d k c) c k.body o ≡ matched es
  fires b es e h is o = ap (λ r. fires_with r o) (sym e) ∙ ap (λ q. or_next d (if q then Some b else None) c k.body o) (sym h) ∙ ap matched (sym is)

-- ---- changes of flags

pub changed_flag : (on : Bool) (n : ℕ) (f : Flags) (o : Option Flag) → Some f ≡ option_map only o → Some (ex.changes n (if on then no_flags else f) (if on then f else no_flags) ∷ []) ≡ ex.change on (Some n) o
changed_flag on n f None e = cc
changed_flag on n f (Some x) e =
    let same : f ≡ only x = cc in
    ap (λ g. Some (ex.changes n (if on then no_flags else g) (if on then g else no_flags) ∷ [])) same

-- ---- functions that call

pub mfa_values : (module_name name arity : Tree) (f : Mfa) → module_name ≡ atom f.module_name → name ≡ atom f.function_name → arity ≡ int (pos f.arity)
    → tuple (more module_name (more name (more arity none))) ≡ mfa_term f
mfa_values m n a f of_module of_name of_arity =
    ap (λ t. tuple (more t (more n (more a none)))) of_module ∙ ap (λ t. tuple (more (atom f.module_name) (more t (more a none)))) of_name ∙ ap (λ t. tuple (more (atom f.module_name) (more (atom f.function_name) (more t none)))) of_arity
