-- An expression's code gives its value and its effects.
use Rattle.std.proofs.Common.{◌≡◌, ℕ, suc, ◌-◌, ◌<◌, List, [], ◌∷◌, ◌++◌, length, Option, Some, None, refl, sym, ap, ◌∙◌, subst, arith, Bool, true, false, if◌then◌else◌, option_map, nat_cmp, is_some, unwrap_or}
use Rattle.std.specs.FinMap.{find}
use Rattle.def_term.specs.Tree.{Tree, pid, list, of_elements}
use Rattle.def_term.specs.Names.{word}
use Rattle.def_spec.specs.Matching.{Pattern, Matches, value_bound, occurs}
use Rattle.def_spec.specs.Functions.{Func, apply, truth, is_true}
use Rattle.def_spec.specs.Expressions as ex
use Rattle.def_spec.specs.Expressions.{Dialect, Expr, Exprs, no_exprs, and_expr, bound_to, whole_list, all_bound, constant, tuple_of, list_of, call, and_also, or_else, perform, Context, Effect, context_after, Position, in_condition, in_body, Action, trace, action_done, Evaluation, comes_to, faults, then_on, or_fault, settle, evaluation, evaluation_of_all, evaluation_while_true, evaluation_until_true, values_bound}
use Rattle.def_spec.specs.Outcome.{Outcome, matched_term}
use Rattle.def_machine.specs.Instructions.{ShapeKind, kind_tuple, kind_list, goes_on_at, gives_exit, Instruction, load_constant, load_list, load_own_pid, test_equal, jump, build, apply_function}
use Rattle.def_machine.specs.Machine.{Registers, with_register, set_register, test_move, term_of, before, terms_in, set_value, set_action_value, does}
use Rattle.def_machine.specs.Compilation.{jump_by, register_of, registers_of, all_registers, is_on_self, action_code, call_code, expr_code, exprs_code, while_true_code, until_true_code}
use Rattle.def_machine.proofs.Fine.{IsFine, AreFine}
use Rattle.def_machine.proofs.Runs.{Ends, by_move, Before, behind, before-self, before-cons, before-trans}
use Rattle.def_machine.proofs.KnownRegisters.{Known, terms_of, where_of, Holds, Agree, holds-on, agree-self, agree-both, agree-with, with-same, found, FoundAs, prepended, all-held}
use Rattle.def_machine.proofs.Fronts.{exprs_front, while_front, until_front}
use Rattle.def_machine.proofs.Patterns.{jump_ends, test_ends, same_known}

none_some : {A B : Type 0} (x : Option A) → x ≡ None → is_some x ≡ true → B
none_some x e f = let z : false ≡ true = sym (ap is_some e) ∙ f in cc

-- the code of an action does the action
action_does : (dialect : Dialect) (a : Action) (c : Context) (d : ℕ) (rs : List ℕ) (g : Registers) (e : List Effect) → does c (action_code dialect a d rs) g e ≡ option_map (λ ts. set_action_value d gives_exit (action_done dialect a ts (context_after c e)) g e) (terms_in g rs)
action_does dialect trace c d [] g e = refl
action_does dialect trace c d (p ∷ []) g e = refl
action_does dialect trace c d (p ∷ off ∷ []) g e = refl
action_does dialect trace c d (p ∷ off ∷ on ∷ []) g e = refl
action_does dialect trace c d (p ∷ off ∷ on ∷ r ∷ rs) g e = refl
action_does dialect a c d rs g e = refl

-- `trace` on self is `trace` on the own pid
two_terms : (x y : Option Tree) (ts : List Tree) → before x (before y (Some [])) ≡ Some ts → (t : Tree) × (u : Tree) × (t ∷ u ∷ [] ≡ ts)
two_terms None y ts is = cc
two_terms (Some t) None ts is = cc
two_terms (Some t) (Some u) ts is = (t, u, ap (λ z. unwrap_or z ts) is)

own_alike : (dialect : Dialect) (a : Action) (es : Exprs) (w : List (ℕ × ℕ)) (x : ℕ) (c : Context) (g : Registers) (e : List Effect) (ts : List Tree) → is_on_self a es ≡ true → terms_in g (registers_of w es x) ≡ Some ts → action_done dialect a (pid c.self_pid ∷ ts) (context_after c e) ≡ action_done dialect a ts (context_after c e)
own_alike dialect trace no_exprs w x c g e ts self is = cc
own_alike dialect trace (and_expr off no_exprs) w x c g e ts self is = cc
own_alike dialect trace (and_expr off (and_expr on no_exprs)) w x c g e ts self is =
    let two : (t : Tree) × (u : Tree) × (t ∷ u ∷ [] ≡ ts) = two_terms (g (register_of w off x)) (g (register_of w on (suc x))) ts is in
    subst (λ us. action_done dialect trace (pid c.self_pid ∷ us) (context_after c e) ≡ action_done dialect trace us (context_after c e)) two.2 refl
own_alike dialect trace (and_expr off (and_expr on (and_expr f es))) w x c g e ts self is = cc
own_alike dialect a es w x c g e ts self is = cc

module _ (dialect : Dialect) (c : Context) (o : Outcome) (F : List Instruction) (p : Pattern) (m : Known) (is_match : Matches p (matched_term c) (terms_of m)) where
  binds : (n : ℕ) → occurs n p ≡ true → is_some (value_bound (terms_of m) n) ≡ true
  binds n h = is_match.exact n ∙ h

  -- what is left to show after an expression, whose value is in r
  abbrev pub AfterValue : List Instruction → Registers → (d r : ℕ) → Evaluation Tree → Type 0
  AfterValue k g d r (faults x) = (h : Registers) → Ends c o F h x
  AfterValue k g d r (comes_to t x) = (h : Registers) → Agree d g h → h r ≡ Some t → Ends c o k h x

  abbrev pub AfterValues : List Instruction → Registers → (d : ℕ) → List ℕ → Evaluation (List Tree) → Type 0
  AfterValues k g d rs (faults x) = (h : Registers) → Ends c o F h x
  AfterValues k g d rs (comes_to ts x) = (h : Registers) → Agree d g h → terms_in h rs ≡ Some ts → Ends c o k h x

  -- k where the value is s, and l where it is u
  abbrev pub AfterTurns : (s u : Tree) → (k l : List Instruction) → Registers → (d : ℕ) → Evaluation Tree → Type 0
  AfterTurns s u k l g d (faults x) = (h : Registers) → Ends c o F h x
  AfterTurns s u k l g d (comes_to t x) = (h : Registers) → Agree d g h → (t ≡ s → Ends c o k h x) × (t ≡ u → Ends c o l h x)

  set_ends : (k : List Instruction) (g : Registers) (d : ℕ) (e : List Effect) (t : Tree) → AfterValue k g d d (comes_to t e) → Ends c o k (with_register d t g) e
  set_ends k g d e t after = after (with_register d t g) (agree-with d d t g (omega arith)) (with-same d t g)

  then_set : (k : List Instruction) (g h : Registers) (d : ℕ) (e : List Effect) (t : Tree) → Agree d g h → AfterValue k g d d (comes_to t e) → Ends c o k (with_register d t h) e
  then_set k g h d e t a after = after (with_register d t h) (agree-both d d g h (with_register d t h) (omega arith) a (agree-with d d t h (omega arith))) (with-same d t h)

  bound_ends : (k : List Instruction) (g : Registers) (d : ℕ) (e : List Effect) (x : Option ℕ) (y : Option Tree) → FoundAs g d x y → is_some y ≡ true → AfterValue k g d (unwrap_or x d) (or_fault y e) → Ends c o k g e
  bound_ends k g d e None None at is after = none_some {A = Tree} None refl is
  bound_ends k g d e None (Some t) at is after = absurd at
  bound_ends k g d e (Some r) None at is after = absurd at
  bound_ends k g d e (Some r) (Some t) at is after = after g (agree-self d g) at.1

  below_found : (g : Registers) (d : ℕ) (x : Option ℕ) (y : Option Tree) → FoundAs g d x y → is_some y ≡ true → unwrap_or x d < suc d
  below_found g d None y at is = omega arith
  below_found g d (Some r) None at is = absurd at
  below_found g d (Some r) (Some t) at is = omega (arith, at.0)

  register_below : (q : Position) (x : Expr) (g : Registers) (d : ℕ) → IsFine q p x → Holds g d m → register_of (where_of m) x d < suc d
  register_below q (bound_to n) g d h holds = below_found g d _ _ (found g d n m holds) (binds n h)
  register_below q whole_list g d h holds = omega arith
  register_below q all_bound g d h holds = omega arith
  register_below q (constant t) g d h holds = omega arith
  register_below q (tuple_of es) g d h holds = omega arith
  register_below q (list_of es) g d h holds = omega arith
  register_below q (call f es) g d h holds = omega arith
  register_below q (and_also es) g d h holds = omega arith
  register_below q (or_else es) g d h holds = omega arith
  register_below q (perform a es) g d h holds = omega arith

  build_after : (kind : ShapeKind) (k : List Instruction) (g : Registers) (d : ℕ) (rs : List ℕ) (r : Evaluation (List Tree)) → AfterValue k g d d (then_on r (λ ts y. comes_to (term_of kind ts) y)) → AfterValues (build kind d rs ∷ k) g d rs r
  build_after kind k g d rs (faults x) after = after
  build_after kind k g d rs (comes_to ts x) after = λ h a is.
      by_move c o (build kind d rs) k h x (set_register d (term_of kind ts) h x) (ap (option_map (λ us. set_register d (term_of kind us) h x)) is) (then_set k g h d x (term_of kind ts) a after)

  call_ends : (q : Position) (f : Func) (k : List Instruction) (g h : Registers) (d : ℕ) (rs : List ℕ) (x : List Effect) (ts : List Tree) (y : Option Tree) → apply f ts c.self_pid ≡ y → terms_in h rs ≡ Some ts → Agree d g h → Before k F → AfterValue k g d d (or_fault (settle q y) x) → Ends c o (call_code q (length F) (apply_function f d rs) k) h x
  call_ends in_condition f k g h d rs x ts None gives is a b after =
      jump_ends c o F x (λ n. apply_function f d rs (goes_on_at n)) k h h b (ap (option_map (λ us. set_value d (goes_on_at (length k - length F)) (apply f us c.self_pid) h x)) is ∙ ap (λ y. Some (set_value d (goes_on_at (length k - length F)) y h x)) gives) (after h)
  call_ends in_condition f k g h d rs x ts (Some t) gives is a b after =
      by_move c o (apply_function f d rs (goes_on_at (length k - length F))) k h x (set_register d t h x) (ap (option_map (λ us. set_value d (goes_on_at (length k - length F)) (apply f us c.self_pid) h x)) is ∙ ap (λ y. Some (set_value d (goes_on_at (length k - length F)) y h x)) gives) (then_set k g h d x t a after)
  call_ends in_body f k g h d rs x ts None gives is a b after =
      by_move c o (apply_function f d rs gives_exit) k h x (set_register d (word "EXIT") h x) (ap (option_map (λ us. set_value d gives_exit (apply f us c.self_pid) h x)) is ∙ ap (λ y. Some (set_value d gives_exit y h x)) gives) (then_set k g h d x (word "EXIT") a after)
  call_ends in_body f k g h d rs x ts (Some t) gives is a b after =
      by_move c o (apply_function f d rs gives_exit) k h x (set_register d t h x) (ap (option_map (λ us. set_value d gives_exit (apply f us c.self_pid) h x)) is ∙ ap (λ y. Some (set_value d gives_exit y h x)) gives) (then_set k g h d x t a after)

  apply_before : (q : Position) (f : Func) (d : ℕ) (rs : List ℕ) (k : List Instruction) → Before k F → Before (call_code q (length F) (apply_function f d rs) k) F
  apply_before in_condition f d rs k b = before-cons _ k F b
  apply_before in_body f d rs k b = before-cons _ k F b

  call_after : (q : Position) (f : Func) (k : List Instruction) (g : Registers) (d : ℕ) (rs : List ℕ) (r : Evaluation (List Tree)) → Before k F → AfterValue k g d d (then_on r (λ ts y. or_fault (settle q (apply f ts c.self_pid)) y)) → AfterValues (call_code q (length F) (apply_function f d rs) k) g d rs r
  call_after q f k g d rs (faults x) b after = after
  call_after q f k g d rs (comes_to ts x) b after = λ h a at. call_ends q f k g h d rs x ts (apply f ts c.self_pid) refl at a b after

  -- an action on the registers of us, where it does the same on ts
  perform_ends : (a : Action) (k : List Instruction) (g h : Registers) (d : ℕ) (rs : List ℕ) (x : List Effect) (us : List Tree) (y : Option (Tree × List Effect)) → action_done dialect a us (context_after c x) ≡ y → terms_in h rs ≡ Some us → Agree d g h → AfterValue k g d d (ex.with_effect in_body y x) → Ends c o (action_code dialect a d rs ∷ k) h x
  perform_ends a k g h d rs x us None gives is ag after =
      by_move c o (action_code dialect a d rs) k h x (set_register d (word "EXIT") h x) (does_it None gives) (then_set k g h d x (word "EXIT") ag after)
    where
      does_it : (y : Option (Tree × List Effect)) → action_done dialect a us (context_after c x) ≡ y → does c (action_code dialect a d rs) h x ≡ Some (set_action_value d gives_exit y h x)
      does_it y e = action_does dialect a c d rs h x ∙ ap (option_map (λ ts. set_action_value d gives_exit (action_done dialect a ts (context_after c x)) h x)) is ∙ ap (λ z. Some (set_action_value d gives_exit z h x)) e
  perform_ends a k g h d rs x us (Some y) gives is ag after =
      by_move c o (action_code dialect a d rs) k h x (set_register d y.0 h (x ++ y.1)) (does_it (Some y) gives) (then_set k g h d (x ++ y.1) y.0 ag after)
    where
      does_it : (z : Option (Tree × List Effect)) → action_done dialect a us (context_after c x) ≡ z → does c (action_code dialect a d rs) h x ≡ Some (set_action_value d gives_exit z h x)
      does_it z e = action_does dialect a c d rs h x ∙ ap (option_map (λ ts. set_action_value d gives_exit (action_done dialect a ts (context_after c x)) h x)) is ∙ ap (λ w. Some (set_action_value d gives_exit w h x)) e

  -- what is left to show where the action's arguments are there
  abbrev AfterAction : Position → Action → List Instruction → Registers → (d : ℕ) → Evaluation (List Tree) → Type 0
  AfterAction q a k g d r = AfterValue k g d d (then_on r (λ ts y. ex.with_effect q (action_done dialect a ts (context_after c y)) y))

  other_after : (a : Action) (k : List Instruction) (g : Registers) (d : ℕ) (rs : List ℕ) (r : Evaluation (List Tree)) → AfterAction in_body a k g d r → AfterValues (action_code dialect a d rs ∷ k) g d rs r
  other_after a k g d rs (faults x) after = after
  other_after a k g d rs (comes_to ts x) after = λ h ag at. perform_ends a k g h d rs x ts (action_done dialect a ts (context_after c x)) refl at ag after

  self_after : (a : Action) (es : Exprs) (k : List Instruction) (g : Registers) (d : ℕ) (r : Evaluation (List Tree)) → is_on_self a es ≡ true → AfterAction in_body a k g d r → AfterValues (action_code dialect a d (d ∷ registers_of (where_of m) es (suc d)) ∷ k) (with_register d (pid c.self_pid) g) (suc d) (registers_of (where_of m) es (suc d)) r
  self_after a es k g d (faults x) self after = after
  self_after a es k g d (comes_to ts x) self after = λ h ag at.
      let own : h d ≡ Some (pid c.self_pid) = ag d (omega arith) ∙ with-same d (pid c.self_pid) g in
      perform_ends a k g h d (d ∷ registers_of (where_of m) es (suc d)) x (pid c.self_pid ∷ ts) (action_done dialect a ts (context_after c x)) (own_alike dialect a es (where_of m) (suc d) c h x ts self at) (prepended (h d) _ (pid c.self_pid) ts own at)
      (agree-both d (suc d) g (with_register d (pid c.self_pid) g) h (omega arith) (agree-with d d (pid c.self_pid) g (omega arith)) ag) after

  perform_after : (q : Position) (a : Action) (es : Exprs) (k : List Instruction) (g : Registers) (d : ℕ) (e : List Effect) → IsFine q p (perform a es) → Holds g d m
      → ((x : ℕ) (i : Instruction) (h : Registers) → AreFine q p es → Holds h x m → AfterValues (i ∷ k) h x (registers_of (where_of m) es x) (evaluation_of_all dialect q (terms_of m) c es e) → Ends c o (exprs_code dialect q (length F) (where_of m) es x (i ∷ k)) h e)
      → AfterAction q a k g d (evaluation_of_all dialect q (terms_of m) c es e) → (s : Bool) → is_on_self a es ≡ s
      → Ends c o (if s then load_own_pid d ∷ exprs_code dialect q (length F) (where_of m) es (suc d) (action_code dialect a d (d ∷ registers_of (where_of m) es (suc d)) ∷ k) else exprs_code dialect q (length F) (where_of m) es d (action_code dialect a d (registers_of (where_of m) es d) ∷ k)) g e
  perform_after in_condition a es k g d e fine holds go after s is = absurd fine
  perform_after in_body a es k g d e fine holds go after true is =
      let h : Registers = with_register d (pid c.self_pid) g in
      by_move c o (load_own_pid d) _ g e (set_register d (pid c.self_pid) g e) refl
      (go (suc d) _ h fine.1 (holds-on g h d (suc d) m (omega arith) (agree-with d d (pid c.self_pid) g (omega arith)) holds) (self_after a es k g d (evaluation_of_all dialect in_body (terms_of m) c es e) is after))
  perform_after in_body a es k g d e fine holds go after false is = go d _ g fine.1 holds (other_after a k g d _ (evaluation_of_all dialect in_body (terms_of m) c es e) after)

  -- the ends of a chain
  chain_after : (s u : Tree) (k : List Instruction) (g : Registers) (d : ℕ) (r : Evaluation Tree) → AfterValue k g d d r → AfterTurns s u (load_constant d s ∷ k) k (with_register d u g) (suc d) r
  chain_after s u k g d (faults x) after = after
  chain_after s u k g d (comes_to t x) after = λ h a.
      let b : Agree d g h = agree-both d (suc d) g (with_register d u g) h (omega arith) (agree-with d d u g (omega arith)) a in (
        (λ is. by_move c o (load_constant d s) k h x (set_register d s h x) refl (then_set k g h d x s b (subst (λ z. AfterValue k g d d (comes_to z x)) is after))),
        (λ is. after h b (a d (omega arith) ∙ with-same d u g ∙ ap Some (sym is))),
      )

  later_turns : (s u : Tree) (k l : List Instruction) (g g' : Registers) (d : ℕ) (r : Evaluation Tree) → Agree d g g' → AfterTurns s u k l g d r → AfterTurns s u k l g' d r
  later_turns s u k l g g' d (faults x) a after = after
  later_turns s u k l g g' d (comes_to t x) a after = λ h b. after h (agree-both d d g g' h (omega arith) a b)

  more_values : (k : List Instruction) (g h : Registers) (d r : ℕ) (rs : List ℕ) (t : Tree) (z : Evaluation (List Tree)) → Agree d g h → r < suc d → h r ≡ Some t → AfterValues k g d (r ∷ rs) (then_on z (λ ts y. comes_to (t ∷ ts) y)) → AfterValues k h (suc d) rs z
  more_values k g h d r rs t (faults x) a l at after = after
  more_values k g h d r rs t (comes_to ts x) a l at after = λ j b held. after j (agree-both d (suc d) g h j (omega arith) a b) (prepended (j r) (terms_in j rs) t ts (b r l ∙ at) held)

  -- one more of a chain that goes on while its values are true
  while_after : (q : Position) (x : Expr) (es : Exprs) (k l : List Instruction) (g : Registers) (d : ℕ) (r : Evaluation Tree) → IsFine q p x → Holds g d m → Before (while_true_code dialect q (length F) (where_of m) es d (length l) k) l → ((h : Registers) (e : List Effect) → Holds h d m → AfterTurns (truth true) (truth false) k l h d (evaluation_while_true dialect q (terms_of m) c es e) → Ends c o (while_true_code dialect q (length F) (where_of m) es d (length l) k) h e) → AfterTurns (truth true) (truth false) k l g d (then_on r (λ t y. if is_true t then evaluation_while_true dialect q (terms_of m) c es y else comes_to (truth false) y)) → AfterValue (load_constant (suc d) (truth true) ∷ jump_by (test_equal (register_of (where_of m) x d) (suc d)) (length l) (while_true_code dialect q (length F) (where_of m) es d (length l) k)) g d (register_of (where_of m) x d) r
  while_after q x es k l g d (faults e) fx holds b go after = after
  while_after q x es k l g d (comes_to t e) fx holds b go after = λ h a at.
      let r : ℕ = register_of (where_of m) x d in
      let h1 : Registers = with_register (suc d) (truth true) h in
      let a1 : Agree (suc d) h h1 = agree-with (suc d) (suc d) (truth true) h (omega arith) in
      let a2 : Agree d g h1 = agree-both d (suc d) g h h1 (omega arith) a a1 in
      let next : Evaluation Tree = evaluation_while_true dialect q (terms_of m) c es e in
      by_move c o (load_constant (suc d) (truth true)) _ h e (set_register (suc d) (truth true) h e) refl
      (test_ends c o l e (test_equal r (suc d)) (is_true t) _ h1 b
      (λ j. ap (option_map (λ s. test_move s j h1 e)) (same_known c o F e h1 r (suc d) t (truth true) (a1 r (register_below q x g d fx holds) ∙ at) (with-same (suc d) (truth true) h)))
      (λ w. go h1 e (holds-on g h1 d d m (omega arith) a2 holds) (later_turns _ _ k l g h1 d next a2 (subst (λ s. AfterTurns (truth true) (truth false) k l g d (if s then next else comes_to (truth false) e)) w after)))
      (λ w. (subst (λ s. AfterTurns (truth true) (truth false) k l g d (if s then next else comes_to (truth false) e)) w after h1 a2).1 refl))

  skip_ends : (b : Bool) (l rest : List Instruction) (h : Registers) (e : List Effect) → Before rest l → (b ≡ true → Ends c o l h e) → (b ≡ false → Ends c o rest h e) → Ends c o (behind (test_move b 1 h e).elsewhere (jump_by jump (length l) rest)) h e
  skip_ends true l rest h e b y n = jump_ends c o l e jump rest h h b refl (y refl)
  skip_ends false l rest h e b y n = n refl

  until_after : (q : Position) (x : Expr) (es : Exprs) (k l : List Instruction) (g : Registers) (d : ℕ) (r : Evaluation Tree) → IsFine q p x → Holds g d m → Before (until_true_code dialect q (length F) (where_of m) es d (length l) k) l → ((h : Registers) (e : List Effect) → Holds h d m → AfterTurns (truth false) (truth true) k l h d (evaluation_until_true dialect q (terms_of m) c es e) → Ends c o (until_true_code dialect q (length F) (where_of m) es d (length l) k) h e) → AfterTurns (truth false) (truth true) k l g d (then_on r (λ t y. if is_true t then comes_to (truth true) y else evaluation_until_true dialect q (terms_of m) c es y)) → AfterValue (load_constant (suc d) (truth true) ∷ test_equal (register_of (where_of m) x d) (suc d) 1 ∷ jump_by jump (length l) (until_true_code dialect q (length F) (where_of m) es d (length l) k)) g d (register_of (where_of m) x d) r
  until_after q x es k l g d (faults e) fx holds b go after = after
  until_after q x es k l g d (comes_to t e) fx holds b go after = λ h a at.
      let r : ℕ = register_of (where_of m) x d in
      let h1 : Registers = with_register (suc d) (truth true) h in
      let a1 : Agree (suc d) h h1 = agree-with (suc d) (suc d) (truth true) h (omega arith) in
      let a2 : Agree d g h1 = agree-both d (suc d) g h h1 (omega arith) a a1 in
      let next : Evaluation Tree = evaluation_until_true dialect q (terms_of m) c es e in
      by_move c o (load_constant (suc d) (truth true)) _ h e (set_register (suc d) (truth true) h e) refl
      (by_move c o (test_equal r (suc d) 1) _ h1 e (test_move (is_true t) 1 h1 e)
      (ap (option_map (λ s. test_move s 1 h1 e)) (same_known c o F e h1 r (suc d) t (truth true) (a1 r (register_below q x g d fx holds) ∙ at) (with-same (suc d) (truth true) h)))
      (skip_ends (is_true t) l _ h1 e b
      (λ w. (subst (λ s. AfterTurns (truth false) (truth true) k l g d (if s then comes_to (truth true) e else next)) w after h1 a2).1 refl)
      (λ w. go h1 e (holds-on g h1 d d m (omega arith) a2 holds) (later_turns _ _ k l g h1 d next a2 (subst (λ s. AfterTurns (truth false) (truth true) k l g d (if s then comes_to (truth true) e else next)) w after)))))

  values_after : (q : Position) (x : Expr) (es : Exprs) (k : List Instruction) (g : Registers) (d : ℕ) (r : Evaluation Tree) → IsFine q p x → Holds g d m → ((h : Registers) (e : List Effect) → Holds h (suc d) m → AfterValues k h (suc d) (registers_of (where_of m) es (suc d)) (evaluation_of_all dialect q (terms_of m) c es e) → Ends c o (exprs_code dialect q (length F) (where_of m) es (suc d) k) h e) → AfterValues k g d (registers_of (where_of m) (and_expr x es) d) (then_on r (λ t y. then_on (evaluation_of_all dialect q (terms_of m) c es y) (λ ts z. comes_to (t ∷ ts) z))) → AfterValue (exprs_code dialect q (length F) (where_of m) es (suc d) k) g d (register_of (where_of m) x d) r
  values_after q x es k g d (faults e) fx holds go after = after
  values_after q x es k g d (comes_to t e) fx holds go after = λ h a at.
      go h e (holds-on g h d (suc d) m (omega arith) a holds)
      (more_values k g h d (register_of (where_of m) x d) (registers_of (where_of m) es (suc d)) t (evaluation_of_all dialect q (terms_of m) c es e) a (register_below q x g d fx holds) at after)

  mutual
    pub expr_ends : (q : Position) (x : Expr) (d : ℕ) (k : List Instruction) (g : Registers) (e : List Effect) → IsFine q p x → Holds g d m → Before k F → AfterValue k g d (register_of (where_of m) x d) (evaluation dialect q (terms_of m) c x e) → Ends c o (expr_code dialect q (length F) (where_of m) x d k) g e
    expr_ends q (bound_to n) d k g e fine holds b after = bound_ends k g d e (find nat_cmp n (where_of m)) (value_bound (terms_of m) n) (found g d n m holds) (binds n fine) after
    expr_ends q whole_list d k g e fine holds b after = by_move c o (load_list d) k g e (set_register d (matched_term c) g e) refl (set_ends k g d e (matched_term c) after)
    expr_ends q all_bound d k g e fine holds b after =
        by_move c o (build kind_list d (all_registers (where_of m))) k g e (set_register d (list (of_elements (values_bound (terms_of m)))) g e) (ap (option_map (λ us. set_register d (list (of_elements us)) g e)) (all-held g d m holds)) (set_ends k g d e (list (of_elements (values_bound (terms_of m)))) after)
    expr_ends q (constant t) d k g e fine holds b after = by_move c o (load_constant d t) k g e (set_register d t g e) refl (set_ends k g d e t after)
    expr_ends q (tuple_of es) d k g e fine holds b after = exprs_ends q es d _ g e fine holds (before-cons _ k F b) (build_after kind_tuple k g d _ (evaluation_of_all dialect q (terms_of m) c es e) after)
    expr_ends q (list_of es) d k g e fine holds b after = exprs_ends q es d _ g e fine holds (before-cons _ k F b) (build_after kind_list k g d _ (evaluation_of_all dialect q (terms_of m) c es e) after)
    expr_ends q (call f es) d k g e fine holds b after = exprs_ends q es d _ g e fine.1 holds (apply_before q f d _ k b) (call_after q f k g d _ (evaluation_of_all dialect q (terms_of m) c es e) b after)
    expr_ends q (and_also es) d k g e fine holds b after =
        by_move c o (load_constant d (truth false)) _ g e (set_register d (truth false) g e) refl
        (while_ends q es (suc d) (load_constant d (truth true) ∷ k) k (with_register d (truth false) g) e fine (holds-on g _ d (suc d) m (omega arith) (agree-with d d (truth false) g (omega arith)) holds) (before-cons _ k k (before-self k)) b
        (chain_after (truth true) (truth false) k g d (evaluation_while_true dialect q (terms_of m) c es e) after))
    expr_ends q (or_else es) d k g e fine holds b after =
        by_move c o (load_constant d (truth true)) _ g e (set_register d (truth true) g e) refl
        (until_ends q es (suc d) (load_constant d (truth false) ∷ k) k (with_register d (truth true) g) e fine (holds-on g _ d (suc d) m (omega arith) (agree-with d d (truth true) g (omega arith)) holds) (before-cons _ k k (before-self k)) b
        (chain_after (truth false) (truth true) k g d (evaluation_until_true dialect q (terms_of m) c es e) after))
    expr_ends q (perform a es) d k g e fine holds b after =
        perform_after q a es k g d e fine holds (λ x i h w hold r. exprs_ends q es x (i ∷ k) h e w hold (before-cons i k F b) r) after (is_on_self a es) refl

    pub exprs_ends : (q : Position) (es : Exprs) (d : ℕ) (k : List Instruction) (g : Registers) (e : List Effect) → AreFine q p es → Holds g d m → Before k F → AfterValues k g d (registers_of (where_of m) es d) (evaluation_of_all dialect q (terms_of m) c es e) → Ends c o (exprs_code dialect q (length F) (where_of m) es d k) g e
    exprs_ends q no_exprs d k g e fine holds b after = after g (agree-self d g) refl
    exprs_ends q (and_expr x es) d k g e fine holds b after =
        expr_ends q x d _ g e fine.0 holds (before-trans _ k F (exprs_front dialect q (length F) (where_of m) es (suc d) k) b)
        (values_after q x es k g d (evaluation dialect q (terms_of m) c x e) fine.0 holds (λ h y w r. exprs_ends q es (suc d) k h y fine.1 w b r) after)

    pub while_ends : (q : Position) (es : Exprs) (d : ℕ) (k l : List Instruction) (g : Registers) (e : List Effect) → AreFine q p es → Holds g d m → Before k l → Before l F → AfterTurns (truth true) (truth false) k l g d (evaluation_while_true dialect q (terms_of m) c es e) → Ends c o (while_true_code dialect q (length F) (where_of m) es d (length l) k) g e
    while_ends q no_exprs d k l g e fine holds b bl after = (after g (agree-self d g)).0 refl
    while_ends q (and_expr x es) d k l g e fine holds b bl after =
        let front : Before (while_true_code dialect q (length F) (where_of m) es d (length l) k) l = before-trans _ k l (while_front dialect q (length F) (where_of m) es d (length l) k) b in
        expr_ends q x d _ g e fine.0 holds (before-cons _ _ F (before-cons _ _ F (before-trans _ l F front bl)))
        (while_after q x es k l g d (evaluation dialect q (terms_of m) c x e) fine.0 holds front (λ h y w r. while_ends q es d k l h y fine.1 w b bl r) after)

    pub until_ends : (q : Position) (es : Exprs) (d : ℕ) (k l : List Instruction) (g : Registers) (e : List Effect) → AreFine q p es → Holds g d m → Before k l → Before l F → AfterTurns (truth false) (truth true) k l g d (evaluation_until_true dialect q (terms_of m) c es e) → Ends c o (until_true_code dialect q (length F) (where_of m) es d (length l) k) g e
    until_ends q no_exprs d k l g e fine holds b bl after = (after g (agree-self d g)).0 refl
    until_ends q (and_expr x es) d k l g e fine holds b bl after =
        let front : Before (until_true_code dialect q (length F) (where_of m) es d (length l) k) l = before-trans _ k l (until_front dialect q (length F) (where_of m) es d (length l) k) b in
        expr_ends q x d _ g e fine.0 holds (before-cons _ _ F (before-cons _ _ F (before-cons _ _ F (before-trans _ l F front bl))))
        (until_after q x es k l g d (evaluation dialect q (terms_of m) c x e) fine.0 holds front (λ h y w r. until_ends q es d k l h y fine.1 w b bl r) after)
