-- What is computed is whether logic is called on what is no boolean; where no logic is called, it isn't.
use Rattle.std.proofs.Common.{◌≡◌, ◌⊎◌, inl, inr, Bool, true, false, not, ◌&&◌, ◌||◌, List, [], Some, refl, sym, ap, ◌∙◌, if◌then◌else◌}
use Rattle.std.proofs.lemmas.Bool.{and_parts, or_parts, or_from}
use Rattle.def_term.specs.Tree.{Tree}
use Rattle.def_spec.specs.Matching.{Bindings}
use Rattle.def_spec.specs.Functions.{Func, boolean_test, is_true}
use Rattle.def_spec.specs.Expressions.{Dialect, Expr, bound_to, whole_list, all_bound, constant, tuple_of, list_of, call, and_also, or_else, perform, Exprs, no_exprs, and_expr, Context, Effect, Position, in_condition, in_body, Evaluation, comes_to, faults, evaluation, evaluation_of_all}
use Rattle.def_spec.specs.Outcome.{Clause}
use Rattle.def_explain.specs.Logic.{is_logic, OneIsNoBoolean, one_is_no_boolean, on_value, IsLogicOnOther, HasLogicOnOther, OneHasLogicOnOther, HasLogicOnOtherWhile, is_logic_on_other, has_logic_on_other, one_has_logic_on_other, has_logic_on_other_while, ClauseHasLogicOnOther, clause_has_logic_on_other}
use Rattle.def_explain.specs.Differences.{faults_in_logic, difference_where, logic_difference}
use Rattle.def_explain.specs.NodeCommands.{calls_logic, one_calls_logic}
use Rattle.def_explain.specs.Laws.{LogicDifferenceIsComputed}
use Rattle.def_explain.proofs.Several.{split, left_is, right_is, one_by_any, any_by_one}
use Rattle.def_explain.proofs.Differences.{both_are, not_is}

-- ---- several

other-found : (ts : List Tree) → one_is_no_boolean ts ≡ true → OneIsNoBoolean ts
other-found ts h = one_by_any (λ t. not (boolean_test t)) (λ t. boolean_test t ≡ false) (λ t k. not_is (boolean_test t) k) ts h

found-other : (ts : List Tree) → OneIsNoBoolean ts → one_is_no_boolean ts ≡ true
found-other ts h = any_by_one (λ t. not (boolean_test t)) (λ t. boolean_test t ≡ false) (λ t k. ap not k) ts h

-- ---- what holds of a value

value-there : {X : Type 0} (r : Evaluation X) (f : X → List Effect → Bool) → on_value r f ≡ true → (t : X) × (y : List Effect) × (r ≡ comes_to t y) × (f t y ≡ true)
value-there (comes_to t y) f h = (t, y, refl, h)
value-there (faults y) f h = absurd (cc h)

there-value : {X : Type 0} (r : Evaluation X) (f : X → List Effect → Bool) (t : X) (y : List Effect) → r ≡ comes_to t y → f t y ≡ true → on_value r f ≡ true
there-value r f t y h k = ap (λ q. on_value q f) h ∙ k

no-value-there : {X : Type 0} (r : Evaluation X) (f : X → List Effect → Bool) → ((t : X) (y : List Effect) → f t y ≡ false) → on_value r f ≡ false
no-value-there (comes_to t y) f h = h t y
no-value-there (faults y) f h = refl

-- goes on where the value is true, or isn't
abbrev goes : Bool → Bool → Bool → Bool
goes s q more = if s then (q && more) else (not q && more)

going : (s q more : Bool) → goes s q more ≡ true → (s ≡ q) × (more ≡ true)
going true true more h = (refl, h)
going true false more h = absurd (cc h)
going false true more h = absurd (cc h)
going false false more h = (refl, h)

gone : (s q more : Bool) → s ≡ q → more ≡ true → goes s q more ≡ true
gone true true more e h = h
gone true false more e h = absurd (cc e)
gone false true more e h = absurd (cc e)
gone false false more e h = h

-- one is no boolean itself, or one after it is such
here_or_later : {P : Type 0} (is_boolean s q more : Bool) → (is_boolean ≡ false) ⊎ ((s ≡ q) × P) → (P → more ≡ true) → (not is_boolean || goes s q more) ≡ true
here_or_later is_boolean s q more (inl h) f = left_is (not is_boolean) _ (ap not h)
here_or_later is_boolean s q more (inr h) f = right_is (not is_boolean) _ (gone s q more h.0 (f h.1))

-- ---- expressions

module _ (d : Dialect) (part : Position) (b : Bindings) (c : Context) where
  call-found : (f : Func) (es : Exprs) (x : List Effect) → is_logic_on_other d part b c f es x ≡ true → IsLogicOnOther d part b c f es x
  call-found f es x h =
      let both : (is_logic f ≡ true) × _ = and_parts (is_logic f) _ h in
      let v : (ts : List Tree) × (y : List Effect) × (evaluation_of_all d part b c es x ≡ comes_to ts y) × (one_is_no_boolean ts ≡ true) = value-there (evaluation_of_all d part b c es x) (λ ts y. one_is_no_boolean ts) both.1 in
      (v.0, v.1, both.0, v.2, other-found v.0 v.3)

  found-call : (f : Func) (es : Exprs) (x : List Effect) → IsLogicOnOther d part b c f es x → is_logic_on_other d part b c f es x ≡ true
  found-call f es x h = both_are (is_logic f) _ h.2 (there-value (evaluation_of_all d part b c es x) (λ ts y. one_is_no_boolean ts) h.0 h.1 h.3 (found-other h.0 h.4))

  mutual
    found : (e : Expr) (x : List Effect) → has_logic_on_other d part b c e x ≡ true → HasLogicOnOther d part b c e x
    found (bound_to n) x h = absurd (cc h)
    found whole_list x h = absurd (cc h)
    found all_bound x h = absurd (cc h)
    found (constant t) x h = absurd (cc h)
    found (tuple_of es) x h = found-one es x h
    found (list_of es) x h = found-one es x h
    found (call f es) x h = split (is_logic_on_other d part b c f es x) (one_has_logic_on_other d part b c es x) (call-found f es x) (found-one es x) h
    found (and_also es) x h = found-while true es x h
    found (or_else es) x h = found-while false es x h
    found (perform a es) x h = found-one es x h

    found-one : (es : Exprs) (x : List Effect) → one_has_logic_on_other d part b c es x ≡ true → OneHasLogicOnOther d part b c es x
    found-one no_exprs x h = absurd (cc h)
    found-one (and_expr e es) x h =
        split (has_logic_on_other d part b c e x) _ (found e x)
        (λ k.
        let v : (t : Tree) × (y : List Effect) × (evaluation d part b c e x ≡ comes_to t y) × (one_has_logic_on_other d part b c es y ≡ true) = value-there (evaluation d part b c e x) _ k in
        (v.0, v.1, v.2, found-one es v.1 v.3))
        h

    found-while : (q : Bool) (es : Exprs) (x : List Effect) → has_logic_on_other_while d part b c q es x ≡ true → HasLogicOnOtherWhile d part b c q es x
    found-while q no_exprs x h = absurd (cc h)
    found-while q (and_expr e es) x h =
        split (has_logic_on_other d part b c e x) _ (found e x)
        (λ k.
        let v : (t : Tree) × (y : List Effect) × (evaluation d part b c e x ≡ comes_to t y) × ((not (boolean_test t) || goes (is_true t) q (has_logic_on_other_while d part b c q es y)) ≡ true) = value-there (evaluation d part b c e x) _ k in (
          v.0,
          v.1,
          v.2,
          split (not (boolean_test v.0)) _ (not_is (boolean_test v.0))
              (λ more.
              let g : (is_true v.0 ≡ q) × (has_logic_on_other_while d part b c q es v.1 ≡ true) = going (is_true v.0) q _ more in
              (g.0, found-while q es v.1 g.1))
              v.3,
        ))
        h

  mutual
    counted : (e : Expr) (x : List Effect) → HasLogicOnOther d part b c e x → has_logic_on_other d part b c e x ≡ true
    counted (bound_to n) x h = absurd h
    counted whole_list x h = absurd h
    counted all_bound x h = absurd h
    counted (constant t) x h = absurd h
    counted (tuple_of es) x h = counted-one es x h
    counted (list_of es) x h = counted-one es x h
    counted (call f es) x (inl h) = left_is (is_logic_on_other d part b c f es x) _ (found-call f es x h)
    counted (call f es) x (inr h) = right_is (is_logic_on_other d part b c f es x) _ (counted-one es x h)
    counted (and_also es) x h = counted-while true es x h
    counted (or_else es) x h = counted-while false es x h
    counted (perform a es) x h = counted-one es x h

    counted-one : (es : Exprs) (x : List Effect) → OneHasLogicOnOther d part b c es x → one_has_logic_on_other d part b c es x ≡ true
    counted-one no_exprs x h = absurd h
    counted-one (and_expr e es) x (inl h) = left_is (has_logic_on_other d part b c e x) _ (counted e x h)
    counted-one (and_expr e es) x (inr h) = right_is (has_logic_on_other d part b c e x) _ (there-value (evaluation d part b c e x) _ h.0 h.1 h.2 (counted-one es h.1 h.3))

    counted-while : (q : Bool) (es : Exprs) (x : List Effect) → HasLogicOnOtherWhile d part b c q es x → has_logic_on_other_while d part b c q es x ≡ true
    counted-while q no_exprs x h = absurd h
    counted-while q (and_expr e es) x (inl h) = left_is (has_logic_on_other d part b c e x) _ (counted e x h)
    counted-while q (and_expr e es) x (inr h) = right_is (has_logic_on_other d part b c e x) _ (there-value (evaluation d part b c e x) _ h.0 h.1 h.2 (here_or_later (boolean_test h.0) (is_true h.0) q _ h.3 (λ k. counted-while q es h.1 k)))

  -- ---- where no logic is called

  no-call : (f : Func) (es : Exprs) (x : List Effect) → is_logic f ≡ false → is_logic_on_other d part b c f es x ≡ false
  no-call f es x h = ap (λ q. q && on_value (evaluation_of_all d part b c es x) (λ ts y. one_is_no_boolean ts)) h

  mutual
    no-logic : (e : Expr) (x : List Effect) → calls_logic e ≡ false → has_logic_on_other d part b c e x ≡ false
    no-logic (bound_to n) x h = refl
    no-logic whole_list x h = refl
    no-logic all_bound x h = refl
    no-logic (constant t) x h = refl
    no-logic (tuple_of es) x h = no_logic_in_one es x h
    no-logic (list_of es) x h = no_logic_in_one es x h
    no-logic (call f es) x h =
        let both : (is_logic f ≡ false) × (one_calls_logic es ≡ false) = or_parts (is_logic f) (one_calls_logic es) h in
        or_from (is_logic_on_other d part b c f es x) _ (no-call f es x both.0) (no_logic_in_one es x both.1)
    no-logic (and_also es) x h = absurd (cc h)
    no-logic (or_else es) x h = absurd (cc h)
    no-logic (perform a es) x h = no_logic_in_one es x h

    pub no_logic_in_one : (es : Exprs) (x : List Effect) → one_calls_logic es ≡ false → one_has_logic_on_other d part b c es x ≡ false
    no_logic_in_one no_exprs x h = refl
    no_logic_in_one (and_expr e es) x h =
        let both : (calls_logic e ≡ false) × (one_calls_logic es ≡ false) = or_parts (calls_logic e) (one_calls_logic es) h in
        or_from (has_logic_on_other d part b c e x) _ (no-logic e x both.0) (no-value-there (evaluation d part b c e x) _ (λ t y. no_logic_in_one es y both.1))

-- ---- a clause

pub no_logic_in_clause : (d : Dialect) (k : Clause) (b : Bindings) (c : Context) → one_calls_logic k.conditions ≡ false → one_calls_logic k.body ≡ false → clause_has_logic_on_other d k b c ≡ false
no_logic_in_clause d k b c g h = or_from (one_has_logic_on_other d in_condition b c k.conditions []) _ (no_logic_in_one d in_condition b c k.conditions [] g) (no_logic_in_one d in_body b c k.body [] h)

clause-found : (d : Dialect) (k : Clause) (b : Bindings) (c : Context) → clause_has_logic_on_other d k b c ≡ true → ClauseHasLogicOnOther d k b c
clause-found d k b c h =
    split (one_has_logic_on_other d in_condition b c k.conditions []) _ (found-one d in_condition b c k.conditions []) (found-one d in_body b c k.body []) h

clause-counted : (d : Dialect) (k : Clause) (b : Bindings) (c : Context) → ClauseHasLogicOnOther d k b c → clause_has_logic_on_other d k b c ≡ true
clause-counted d k b c (inl h) = left_is (one_has_logic_on_other d in_condition b c k.conditions []) _ (counted-one d in_condition b c k.conditions [] h)
clause-counted d k b c (inr h) = right_is (one_has_logic_on_other d in_condition b c k.conditions []) _ (counted-one d in_body b c k.body [] h)

pub logic_difference_is_computed : LogicDifferenceIsComputed
logic_difference_is_computed d k b c x = (sound, complete)
  where
    by : (q : Bool) → clause_has_logic_on_other d k b c ≡ q → difference_where q faults_in_logic ≡ Some x → (x ≡ faults_in_logic) × ClauseHasLogicOnOther d k b c
    by true e h = (cc h, clause-found d k b c e)
    by false e h = absurd (cc h)

    sound : logic_difference d k b c ≡ Some x → (x ≡ faults_in_logic) × ClauseHasLogicOnOther d k b c
    sound h = by (clause_has_logic_on_other d k b c) refl h

    complete : (x ≡ faults_in_logic) × ClauseHasLogicOnOther d k b c → logic_difference d k b c ≡ Some x
    complete h = ap (λ q. difference_where q faults_in_logic) (clause-counted d k b c h.1) ∙ ap Some (sym h.0)
