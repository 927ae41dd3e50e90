-- The code of an expression reads what is set, and sets the register of its value.
use Rattle.std.proofs.Common.{◌≡◌, ℕ, suc, ◌+◌, ◌-◌, ◌≤◌, List, [], ◌∷◌, length, refl, subst, arith, nat_cmp, Bool, true, false, if◌then◌else◌, is_some, inl, inr, ◌⊎◌, ⊎_elim}
use Rattle.std.specs.FinMap.{find}
use Rattle.def_spec.specs.Matching.{Pattern, occurs}
use Rattle.def_spec.specs.Functions.{Func, truth}
use Rattle.def_spec.specs.Expressions.{Dialect, Expr, Exprs, no_exprs, and_expr, bound_to, whole_list, all_bound, constant, tuple_of, list_of, call, and_also, or_else, perform, Position, in_condition, in_body, Action, trace}
use Rattle.def_machine.specs.Instructions.{kind_tuple, kind_list, goes_on_at, gives_exit, Instruction, load_constant, load_list, load_own_pid, test_equal, jump, build, apply_function, perform_action, change_flags}
use Rattle.def_machine.specs.Validity.{Each, away}
use Rattle.def_machine.specs.Compilation.{VariableRegisters, register_of, registers_of, all_registers, is_on_self, action_code, call_code, expr_code, exprs_code, while_true_code, until_true_code}
use Rattle.def_machine.proofs.Fine.{IsFine, AreFine}
use Rattle.def_machine.proofs.Fronts.{exprs_front, while_front, until_front}
use Rattle.def_machine.proofs.AcceptedPlaces.{Reached, IsSet, ReadsAccepted, set_on, next_set, longer, other_targets, jump_target, by_step, by_setting}
use Rattle.def_machine.proofs.AcceptedVariables.{EachRegister, each-found, each-listed, of_found, registers_later}

module _ (left : List Instruction) where
  -- one target more: the place where l instructions are left
  abbrev pub With : ℕ → (ℕ → Type 0) → ℕ → Type 0
  With l T n = (n ≡ length left - l) ⊎ T n

  pub with_more : (a : ℕ) (rest : List Instruction) (l : ℕ) (T : ℕ → Type 0) → Reached left a rest T → Reached left a rest (With l T)
  with_more a rest l T h = other_targets left a rest T (With l T) (λ n t. inr (inr t)) h

  -- at that place it is none
  pub without : (a : ℕ) (rest : List Instruction) (T : ℕ → Type 0) → Reached left a rest (With (length rest) T) → Reached left a rest T
  without a rest T h = other_targets left a rest (With (length rest) T) T (λ n x. ⊎_elim (λ e. inl (omega (arith, e, h.size))) (λ t. inr t) x) h

  -- the place where f instructions are left is a target, and all are after the place where more than m are left
  pub record Targets (f m : ℕ) (T : ℕ → Type 0) : Type 0 where
    pub fault : T (length left - f)
    pub few : f ≤ m
    pub above : (n : ℕ) → T n → length left ≤ n + m

  targets_with : (f m l : ℕ) (T : ℕ → Type 0) → Targets f m T → m ≤ l → Targets f l (With l T)
  targets_with f m l T h le = record { fault = inr h.fault; few = omega (arith, h.few, le); above = λ n x. ⊎_elim (λ e. omega (arith, e)) (λ t. omega (arith, h.above n t, le)) x }

  module _ (f : ℕ) where
    call_accepted : (q : Position) (g : Func) (d a m : ℕ) (rs : List ℕ) (k : List Instruction) (T : ℕ → Type 0) → Targets f m T → m ≤ length k → Reached left a (call_code q f (apply_function g d rs) k) T → Each (IsSet left a m) rs → (Reached left (suc a) k T → IsSet left (suc a) m d → ReadsAccepted left (suc a)) → ReadsAccepted left a
    call_accepted in_condition g d a m rs k T targets few here set after =
        by_setting left a (apply_function g d rs (goes_on_at (length k - f))) k T here d m targets.above (away _ ∷ []) refl (jump_target left a f _ k T here (omega (arith, targets.few, few)) targets.fault, tt) few set after
    call_accepted in_body g d a m rs k T targets few here set after = by_setting left a (apply_function g d rs gives_exit) k T here d m targets.above [] refl tt few set after

    action_fine : (q : Position) (p : Pattern) (a : Action) (es : Exprs) → IsFine q p (perform a es) → AreFine q p es
    action_fine in_condition p a es h = absurd h
    action_fine in_body p a es h = h.1

    call_few : (q : Position) (g : Func) (d m : ℕ) (rs : List ℕ) (k : List Instruction) → m ≤ length k → m ≤ length (call_code q f (apply_function g d rs) k)
    call_few in_condition g d m rs k few = omega (arith, few)
    call_few in_body g d m rs k few = omega (arith, few)

    -- an action reads its registers, and sets that of its value
    action_accepted : (dialect : Dialect) (c : Action) (d b m : ℕ) (rs : List ℕ) (k : List Instruction) (T : ℕ → Type 0) → Targets f m T → m ≤ length k → Reached left b (action_code dialect c d rs ∷ k) T → Each (IsSet left b m) rs → (Reached left (suc b) k T → IsSet left (suc b) m d → ReadsAccepted left (suc b)) → ReadsAccepted left b
    action_accepted dialect trace d b m [] k T targets few here set after = by_setting left b (perform_action dialect trace d []) k T here d m targets.above [] refl tt few set after
    action_accepted dialect trace d b m (r ∷ []) k T targets few here set after = by_setting left b (perform_action dialect trace d (r ∷ [])) k T here d m targets.above [] refl tt few set after
    action_accepted dialect trace d b m (r ∷ off ∷ []) k T targets few here set after = by_setting left b (perform_action dialect trace d (r ∷ off ∷ [])) k T here d m targets.above [] refl tt few set after
    action_accepted dialect trace d b m (r ∷ off ∷ on ∷ []) k T targets few here set after = by_setting left b (change_flags d r off on gives_exit) k T here d m targets.above [] refl tt few set after
    action_accepted dialect trace d b m (r ∷ off ∷ on ∷ s ∷ rs) k T targets few here set after = by_setting left b (perform_action dialect trace d (r ∷ off ∷ on ∷ s ∷ rs)) k T here d m targets.above [] refl tt few set after
    action_accepted dialect c d b m rs k T targets few here set after = by_setting left b (perform_action dialect c d rs) k T here d m targets.above [] refl tt few set after

    perform_accepted : (dialect : Dialect) (q : Position) (p : Pattern) (env : VariableRegisters) (c : Action) (es : Exprs) (d a m : ℕ) (k : List Instruction) (T : ℕ → Type 0) → Targets f m T → m ≤ length k → IsFine q p (perform c es) → Reached left a (expr_code dialect q f env (perform c es) d k) T → EachRegister (IsSet left a m) env → (own : Bool) → is_on_self c es ≡ own
        → ((x b : ℕ) (i : Instruction) → AreFine q p es → Reached left b (exprs_code dialect q f env es x (i ∷ k)) T → EachRegister (IsSet left b m) env → ((e : ℕ) → b ≤ e → Reached left e (i ∷ k) T → Each (IsSet left e m) (registers_of env es x) → ReadsAccepted left e) → ReadsAccepted left b)
        → ((b : ℕ) → a ≤ b → Reached left b k T → IsSet left b m d → ReadsAccepted left b) → ReadsAccepted left a
    perform_accepted dialect q p env c es d a m k T targets few fine here set true is go after =
        let self : Instruction = action_code dialect c d (d ∷ registers_of env es (suc d)) in
        by_setting left a (load_own_pid d) _ T (subst (λ s. Reached left a (if s then load_own_pid d ∷ exprs_code dialect q f env es (suc d) (self ∷ k) else exprs_code dialect q f env es d (action_code dialect c d (registers_of env es d) ∷ k)) T) is here) d m targets.above [] refl tt (longer _ (self ∷ k) m (exprs_front dialect q f env es (suc d) (self ∷ k)) (omega (arith, few))) tt
        (λ next own. go (suc d) (suc a) self (action_fine q p c es fine) next (registers_later left a (suc a) m m env (omega arith) (omega arith) set)
        (λ b le reached others. action_accepted dialect c d b m (d ∷ registers_of env es (suc d)) k T targets few reached (set_on left (suc a) b m d le own, others) (after (suc b) (omega (arith, le)))))
    perform_accepted dialect q p env c es d a m k T targets few fine here set false is go after =
        let other : Instruction = action_code dialect c d (registers_of env es d) in
        go d a other (action_fine q p c es fine) (subst (λ s. Reached left a (if s then load_own_pid d ∷ exprs_code dialect q f env es (suc d) (action_code dialect c d (d ∷ registers_of env es (suc d)) ∷ k) else exprs_code dialect q f env es d (other ∷ k)) T) is here) set
        (λ b le reached own. action_accepted dialect c d b m (registers_of env es d) k T targets few reached own (after (suc b) (omega (arith, le))))

    module _ (dialect : Dialect) (q : Position) (p : Pattern) (env : VariableRegisters) (has : (n : ℕ) → occurs n p ≡ true → is_some (find nat_cmp n env) ≡ true) where
      while_few : (es : Exprs) (d g m : ℕ) (k : List Instruction) → m ≤ length k → m ≤ length (while_true_code dialect q f env es d g k)
      while_few es d g m k few = longer _ k m (while_front dialect q f env es d g k) few

      until_few : (es : Exprs) (d g m : ℕ) (k : List Instruction) → m ≤ length k → m ≤ length (until_true_code dialect q f env es d g k)
      until_few es d g m k few = longer _ k m (until_front dialect q f env es d g k) few

      mutual
        expr_accepted : (ex : Expr) (d a m : ℕ) (k : List Instruction) (T : ℕ → Type 0) → Targets f m T → m ≤ length k → IsFine q p ex → Reached left a (expr_code dialect q f env ex d k) T → EachRegister (IsSet left a m) env → ((b : ℕ) → a ≤ b → Reached left b k T → IsSet left b m (register_of env ex d) → ReadsAccepted left b) → ReadsAccepted left a
        expr_accepted (bound_to n) d a m k T targets few fine here set after = after a (omega arith) here (of_found (IsSet left a m) d (find nat_cmp n env) (each-found (IsSet left a m) n env set) (has n fine))
        expr_accepted whole_list d a m k T targets few fine here set after = by_setting left a (load_list d) k T here d m targets.above [] refl tt few tt (after (suc a) (omega arith))
        expr_accepted all_bound d a m k T targets few fine here set after = by_setting left a (build kind_list d (all_registers env)) k T here d m targets.above [] refl tt few (each-listed (IsSet left a m) env set) (after (suc a) (omega arith))
        expr_accepted (constant t) d a m k T targets few fine here set after = by_setting left a (load_constant d t) k T here d m targets.above [] refl tt few tt (after (suc a) (omega arith))
        expr_accepted (tuple_of es) d a m k T targets few fine here set after =
            exprs_accepted es d a m _ T targets (omega (arith, few)) fine here set
            (λ b le reached own. by_setting left b (build kind_tuple d (registers_of env es d)) k T reached d m targets.above [] refl tt few own (after (suc b) (omega (arith, le))))
        expr_accepted (list_of es) d a m k T targets few fine here set after =
            exprs_accepted es d a m _ T targets (omega (arith, few)) fine here set
            (λ b le reached own. by_setting left b (build kind_list d (registers_of env es d)) k T reached d m targets.above [] refl tt few own (after (suc b) (omega (arith, le))))
        expr_accepted (call g es) d a m k T targets few fine here set after =
            exprs_accepted es d a m _ T targets (call_few q g d m _ k few) fine.1 here set
            (λ b le reached own. call_accepted q g d b m (registers_of env es d) k T targets few reached own (after (suc b) (omega (arith, le))))
        expr_accepted (and_also es) d a m k T targets few fine here set after =
            let k1 : List Instruction = load_constant d (truth true) ∷ k in
            let WithEnd : ℕ → Type 0 = With (length k) T in
            by_setting left a (load_constant d (truth false)) _ T here d m targets.above [] refl tt (while_few es (suc d) (length k) m k1 (omega (arith, few))) tt
            (λ next own. while_accepted es (suc d) (suc a) (length k) k1 WithEnd (targets_with f m (length k) T targets few) (inl refl) (omega arith) fine (with_more (suc a) _ (length k) T next) (registers_later left a (suc a) m (length k) env (omega arith) few set)
            (λ b le reached. by_step left b (load_constant d (truth true)) k WithEnd reached m few tt (tt, tt)
            (λ last. after (suc b) (omega (arith, le)) (without (suc b) k T last) (set_on left (suc a) (suc b) m d (omega (arith, le)) own))))
        expr_accepted (or_else es) d a m k T targets few fine here set after =
            let k1 : List Instruction = load_constant d (truth false) ∷ k in
            let WithEnd : ℕ → Type 0 = With (length k) T in
            by_setting left a (load_constant d (truth true)) _ T here d m targets.above [] refl tt (until_few es (suc d) (length k) m k1 (omega (arith, few))) tt
            (λ next own. until_accepted es (suc d) (suc a) (length k) k1 WithEnd (targets_with f m (length k) T targets few) (inl refl) (omega arith) fine (with_more (suc a) _ (length k) T next) (registers_later left a (suc a) m (length k) env (omega arith) few set)
            (λ b le reached. by_step left b (load_constant d (truth false)) k WithEnd reached m few tt (tt, tt)
            (λ last. after (suc b) (omega (arith, le)) (without (suc b) k T last) (set_on left (suc a) (suc b) m d (omega (arith, le)) own))))
        expr_accepted (perform c es) d a m k T targets few fine here set after =
            perform_accepted dialect q p env c es d a m k T targets few fine here set (is_on_self c es) refl
            (λ x b i w set1 own1 reached. exprs_accepted es x b m (i ∷ k) T targets (omega (arith, few)) w set1 own1 reached) after

        pub exprs_accepted : (es : Exprs) (d a m : ℕ) (k : List Instruction) (T : ℕ → Type 0) → Targets f m T → m ≤ length k → AreFine q p es → Reached left a (exprs_code dialect q f env es d k) T → EachRegister (IsSet left a m) env → ((b : ℕ) → a ≤ b → Reached left b k T → Each (IsSet left b m) (registers_of env es d) → ReadsAccepted left b) → ReadsAccepted left a
        exprs_accepted no_exprs d a m k T targets few fine here set after = after a (omega arith) here tt
        exprs_accepted (and_expr e es) d a m k T targets few fine here set after =
            expr_accepted e d a m _ T targets (longer _ k m (exprs_front dialect q f env es (suc d) k) few) fine.0 here set
            (λ b le reached own. exprs_accepted es (suc d) b m k T targets few fine.1 reached (registers_later left a b m m env le (omega arith) set)
            (λ c le1 last others. after c (omega (arith, le, le1)) last (set_on left b c m _ le1 own, others)))

        -- where one isn't true the code goes on where g instructions are left
        pub while_accepted : (es : Exprs) (d a g : ℕ) (k : List Instruction) (T : ℕ → Type 0) → Targets f g T → T (length left - g) → g ≤ length k → AreFine q p es → Reached left a (while_true_code dialect q f env es d g k) T → EachRegister (IsSet left a g) env → ((b : ℕ) → a ≤ b → Reached left b k T → ReadsAccepted left b) → ReadsAccepted left a
        while_accepted no_exprs d a g k T targets target few fine here set after = after a (omega arith) here
        while_accepted (and_expr e es) d a g k T targets target few fine here set after =
            let k1 : List Instruction = while_true_code dialect q f env es d g k in
            let few1 : g ≤ length k1 = while_few es d g g k few in
            let few2 : g ≤ suc (length k1) = omega (arith, few1) in
            expr_accepted e d a g _ T targets (omega (arith, few1)) fine.0 here set
            (λ b le reached own. by_setting left b (load_constant (suc d) (truth true)) _ T reached (suc d) g targets.above [] refl tt few2 tt
            (λ next own1. by_step left (suc b) (test_equal (register_of env e d) (suc d) (length k1 - g)) k1 T next g few1 (next_set left b g _ own, (own1, tt)) (tt, (jump_target left (suc b) g _ k1 T next few1 target, tt))
            (λ next1. while_accepted es d (suc (suc b)) g k T targets target few fine.1 next1 (registers_later left a (suc (suc b)) g g env (omega (arith, le)) (omega arith) set)
            (λ c le1 last. after c (omega (arith, le, le1)) last))))

        -- where one is true the code goes on where g instructions are left
        until_accepted : (es : Exprs) (d a g : ℕ) (k : List Instruction) (T : ℕ → Type 0) → Targets f g T → T (length left - g) → g ≤ length k → AreFine q p es → Reached left a (until_true_code dialect q f env es d g k) T → EachRegister (IsSet left a g) env → ((b : ℕ) → a ≤ b → Reached left b k T → ReadsAccepted left b) → ReadsAccepted left a
        until_accepted no_exprs d a g k T targets target few fine here set after = after a (omega arith) here
        until_accepted (and_expr e es) d a g k T targets target few fine here set after =
            let k1 : List Instruction = until_true_code dialect q f env es d g k in
            let WithEnd : ℕ → Type 0 = With (length k1) T in
            let few1 : g ≤ length k1 = until_few es d g g k few in
            expr_accepted e d a g _ T targets (omega (arith, few1)) fine.0 here set
            (λ b le reached own. by_setting left b (load_constant (suc d) (truth true)) _ T reached (suc d) g targets.above [] refl tt (omega (arith, few1)) tt
            (λ next own1. by_step left (suc b) (test_equal (register_of env e d) (suc d) 1) _ WithEnd (with_more (suc b) _ (length k1) T next) g (omega (arith, few1)) (next_set left b g _ own, (own1, tt)) (tt, (inl (omega (arith, next.size)), tt))
            (λ next1. by_step left (suc (suc b)) (jump (length k1 - g)) k1 WithEnd next1 g few1 tt (jump_target left (suc (suc b)) g _ k1 WithEnd next1 few1 (inr target), tt)
            (λ next2. until_accepted es d (suc (suc (suc b))) g k T targets target few fine.1 (without (suc (suc (suc b))) k1 T next2) (registers_later left a (suc (suc (suc b))) g g env (omega (arith, le)) (omega arith) set)
            (λ c le1 last. after c (omega (arith, le, le1)) last)))))
