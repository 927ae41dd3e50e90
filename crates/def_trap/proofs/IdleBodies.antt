-- An expression of a body that is a trap adds no effect.
use Rattle.std.proofs.Common.{◌≡◌, ◌∙◌, sym, ap, ℕ, Bool, true, false, not, ◌&&◌, if◌then◌else◌, List, [], ◌∷◌, Option, Some, None, refl}
use Rattle.std.specs.Prelude.{is_some}
use Rattle.std.specs.Option.{option_map, option_or}
use Rattle.def_term.specs.Names.{word}
use Rattle.def_term.specs.Tree.{Tree, pid, list, of_elements}
use Rattle.def_spec.specs.Flags.{Flag, Flags, flag_named, flags_listed, flags_named, and_flag}
use Rattle.def_spec.specs.Matching.{Bindings}
use Rattle.def_spec.specs.Expressions.{Dialect, Action, message, return_trace, exception_trace, silent, enable_trace, disable_trace, trace, caller, Expr, bound_to, whole_list, all_bound, constant, tuple_of, list_of, call, and_also, or_else, perform, Exprs, no_exprs, and_expr, Context, Effect, in_body, Evaluation, comes_to, faults, then_on, evaluation, evaluation_of_all, change_by, living_pid, trace_change, trace_by, action_done, context_after}
use Rattle.def_trap.specs.Traps.{BodyTrap, marks_no_call, lacks_flag, body_trap, marks_call, is_flag, no_flag, first_no_flag, no_flags_in, no_lists, no_flag_last, no_lists_last, no_flag_among}
use Rattle.def_trap.specs.Actions.{is_of_calls}
use Rattle.def_trap.specs.TrapLaws.{BodyTrapsDoNothing}
use Rattle.def_trap.proofs.IdleActions.{IsIdle, idle_call, idle_marks, no_change, no_off, no_on}

-- ---- what is not there

none_of : {A : Type 0} (o : Option A) → is_some o ≡ false → o ≡ None
none_of None e = refl
none_of (Some a) e = let clash : true ≡ false = e in cc

-- the test of a constant that is no flag
unless_flag : (b : Bool) (u t : Tree) → (if b then None else Some u) ≡ Some t → b ≡ false
unless_flag true u t e = let clash : None ≡ Some t = e in cc
unless_flag false u t e = refl

-- by whether something is there
by_option : {P : Type 0} (o : Option Tree) → ((u : Tree) → o ≡ Some u → P) → (o ≡ None → P) → P
by_option None f k = k refl
by_option (Some u) f k = f u refl

-- ---- parts of an evaluation

-- what comes to a value has parts that do
record Comes {X Y : Type 0} (r : Evaluation X) (f : X → List Effect → Evaluation Y) (v : Y) (y : List Effect) : Type 0 where
  part : X
  after : List Effect
  comes : r ≡ comes_to part after
  rest : f part after ≡ comes_to v y

no_value : {Y : Type 0} (es : List Effect) (v : Y) (y : List Effect) → faults es ≡ comes_to v y → ⊥
no_value es v y e = cc

parts : {X Y : Type 0} (r : Evaluation X) (f : X → List Effect → Evaluation Y) (v : Y) (y : List Effect) → then_on r f ≡ comes_to v y → Comes r f v y
parts (comes_to x z) f v y e = record { part = x; after = z; comes = refl; rest = e }
parts (faults es) f v y e = absurd (no_value es v y e)

module _ (d : Dialect) (b : Bindings) (c : Context) where
  -- a constant comes to itself
  no_flag_value : (e : Expr) (t : Tree) → no_flag e ≡ Some t → (x : List Effect) (v : Tree) (y : List Effect) → evaluation d in_body b c e x ≡ comes_to v y → flag_named v ≡ None
  no_flag_value (constant u) t h x v y k =
      let same : u ≡ v = (let q : comes_to u x ≡ comes_to v y = k in cc) in
      ap flag_named (sym same) ∙ none_of (flag_named u) (unless_flag (is_flag u) u t h)
  no_flag_value (bound_to n) t h x v y k = let clash : None ≡ Some t = h in cc
  no_flag_value whole_list t h x v y k = let clash : None ≡ Some t = h in cc
  no_flag_value all_bound t h x v y k = let clash : None ≡ Some t = h in cc
  no_flag_value (tuple_of es) t h x v y k = let clash : None ≡ Some t = h in cc
  no_flag_value (list_of es) t h x v y k = let clash : None ≡ Some t = h in cc
  no_flag_value (call f es) t h x v y k = let clash : None ≡ Some t = h in cc
  no_flag_value (and_also es) t h x v y k = let clash : None ≡ Some t = h in cc
  no_flag_value (or_else es) t h x v y k = let clash : None ≡ Some t = h in cc
  no_flag_value (perform a es) t h x v y k = let clash : None ≡ Some t = h in cc

  -- flags with one that is none, and with others that are none
  one_is_none : (f : Option Flag) (fs : Option Flags) → f ≡ None → and_flag f fs ≡ None
  one_is_none None fs e = refl
  one_is_none (Some f) fs e = let clash : Some f ≡ None = e in cc

  others_are_none : (f : Option Flag) (fs : Option Flags) → fs ≡ None → and_flag f fs ≡ None
  others_are_none None fs e = refl
  others_are_none (Some f) None e = refl
  others_are_none (Some f) (Some fs) e = let clash : Some fs ≡ None = e in cc

  -- a list with a constant that is no flag
  listed_none : (es : Exprs) (t : Tree) → first_no_flag es ≡ Some t → (x : List Effect) (vs : List Tree) (y : List Effect)
      → evaluation_of_all d in_body b c es x ≡ comes_to vs y → flags_named (of_elements vs) ≡ None
  listed_none no_exprs t h x vs y k = let clash : None ≡ Some t = h in cc
  listed_none (and_expr e es) t h x vs y k =
      let outer : Comes (evaluation d in_body b c e x) (λ v z. then_on (evaluation_of_all d in_body b c es z) (λ ts a. comes_to (v ∷ ts) a)) vs y =
      parts (evaluation d in_body b c e x) (λ v z. then_on (evaluation_of_all d in_body b c es z) (λ ts a. comes_to (v ∷ ts) a)) vs y k in
      let inner : Comes (evaluation_of_all d in_body b c es outer.after) (λ ts a. comes_to (outer.part ∷ ts) a) vs y =
      parts (evaluation_of_all d in_body b c es outer.after) (λ ts a. comes_to (outer.part ∷ ts) a) vs y outer.rest in
      let all : outer.part ∷ inner.part ≡ vs = (let q : comes_to (outer.part ∷ inner.part) inner.after ≡ comes_to vs y = inner.rest in cc) in
      ap (λ l. flags_named (of_elements l)) (sym all)
      ∙ by_option (no_flag e) (λ u one. one_is_none (flag_named outer.part) (flags_named (of_elements inner.part)) (no_flag_value e u one x outer.part outer.after outer.comes))
      (λ q. others_are_none (flag_named outer.part) (flags_named (of_elements inner.part)) (listed_none es t (sym (ap (λ o. option_or o (first_no_flag es)) q) ∙ h) outer.after inner.part inner.after inner.comes))

  -- what is no list of flags
  no_list_value : (e : Expr) (t : Tree) → no_flags_in e ≡ Some t → (x : List Effect) (v : Tree) (y : List Effect) → evaluation d in_body b c e x ≡ comes_to v y → flags_listed v ≡ None
  no_list_value (constant u) t h x v y k =
      let same : u ≡ v = (let q : comes_to u x ≡ comes_to v y = k in cc) in
      ap flags_listed (sym same) ∙ none_of (flags_listed u) (unless_flag (is_some (flags_listed u)) u t h)
  no_list_value (list_of es) t h x v y k =
      let inner : Comes (evaluation_of_all d in_body b c es x) (λ ts z. comes_to (list (of_elements ts)) z) v y =
      parts (evaluation_of_all d in_body b c es x) (λ ts z. comes_to (list (of_elements ts)) z) v y k in
      let same : list (of_elements inner.part) ≡ v = (let q : comes_to (list (of_elements inner.part)) inner.after ≡ comes_to v y = inner.rest in cc) in
      ap flags_listed (sym same) ∙ listed_none es t h x inner.part inner.after inner.comes
  no_list_value (bound_to n) t h x v y k = let clash : None ≡ Some t = h in cc
  no_list_value whole_list t h x v y k = let clash : None ≡ Some t = h in cc
  no_list_value all_bound t h x v y k = let clash : None ≡ Some t = h in cc
  no_list_value (tuple_of es) t h x v y k = let clash : None ≡ Some t = h in cc
  no_list_value (call f es) t h x v y k = let clash : None ≡ Some t = h in cc
  no_list_value (and_also es) t h x v y k = let clash : None ≡ Some t = h in cc
  no_list_value (or_else es) t h x v y k = let clash : None ≡ Some t = h in cc
  no_list_value (perform a es) t h x v y k = let clash : None ≡ Some t = h in cc

  -- ---- the values of arguments

  -- of one, of two and of three
  record One (e : Expr) (x : List Effect) (vs : List Tree) : Type 0 where
    value : Tree
    after : List Effect
    comes : evaluation d in_body b c e x ≡ comes_to value after
    are : vs ≡ value ∷ []

  one : (e : Expr) (x : List Effect) (vs : List Tree) (y : List Effect) → evaluation_of_all d in_body b c (and_expr e no_exprs) x ≡ comes_to vs y → One e x vs
  one e x vs y k =
      let p : Comes (evaluation d in_body b c e x) (λ v z. comes_to (v ∷ []) z) vs y = parts (evaluation d in_body b c e x) (λ v z. comes_to (v ∷ []) z) vs y k in
      record { value = p.part; after = p.after; comes = p.comes; are = (let q : comes_to (p.part ∷ []) p.after ≡ comes_to vs y = p.rest in cc) }

  record More (e : Expr) (es : Exprs) (x : List Effect) (vs : List Tree) : Type 0 where
    value : Tree
    after : List Effect
    comes : evaluation d in_body b c e x ≡ comes_to value after
    others : List Tree
    end : List Effect
    others_come : evaluation_of_all d in_body b c es after ≡ comes_to others end
    are : vs ≡ value ∷ others

  one_more : (e : Expr) (es : Exprs) (x : List Effect) (vs : List Tree) (y : List Effect) → evaluation_of_all d in_body b c (and_expr e es) x ≡ comes_to vs y → More e es x vs
  one_more e es x vs y k =
      let p : Comes (evaluation d in_body b c e x) (λ v z. then_on (evaluation_of_all d in_body b c es z) (λ ts a. comes_to (v ∷ ts) a)) vs y =
      parts (evaluation d in_body b c e x) (λ v z. then_on (evaluation_of_all d in_body b c es z) (λ ts a. comes_to (v ∷ ts) a)) vs y k in
      let r : Comes (evaluation_of_all d in_body b c es p.after) (λ ts a. comes_to (p.part ∷ ts) a) vs y =
      parts (evaluation_of_all d in_body b c es p.after) (λ ts a. comes_to (p.part ∷ ts) a) vs y p.rest in
      record {
        value = p.part;
        after = p.after;
        comes = p.comes;
        others = r.part;
        end = r.after;
        others_come = r.comes;
        are = (let q : comes_to (p.part ∷ r.part) r.after ≡ comes_to vs y = r.rest in cc);
      }

  -- ---- actions that lack a flag

  -- a change of a flag that is none, on self or on a process
  idle_flag : (on : Bool) (m : Context) (es : Exprs) (t : Tree) → no_flag_last es ≡ Some t → (x : List Effect) (vs : List Tree) (y : List Effect)
      → evaluation_of_all d in_body b c es x ≡ comes_to vs y → change_by on m vs ≡ None
  idle_flag on m no_exprs t h x vs y k = let clash : None ≡ Some t = h in cc
  idle_flag on m (and_expr f no_exprs) t h x vs y k =
      let o : One f x vs = one f x vs y k in
      ap (change_by on m) o.are ∙ no_change on (living_pid m.alive (pid m.self_pid)) (flag_named o.value) (no_flag_value f t h x o.value o.after o.comes)
  idle_flag on m (and_expr p (and_expr f no_exprs)) t h x vs y k =
      let a : More p (and_expr f no_exprs) x vs = one_more p (and_expr f no_exprs) x vs y k in
      let o : One f a.after a.others = one f a.after a.others a.end a.others_come in
      ap (change_by on m) (a.are ∙ ap (λ l. a.value ∷ l) o.are) ∙ no_change on (living_pid m.alive a.value) (flag_named o.value) (no_flag_value f t h a.after o.value o.after o.comes)
  idle_flag on m (and_expr p (and_expr f (and_expr e es))) t h x vs y k = let clash : None ≡ Some t = h in cc

  -- of two lists of flags
  idle_lists : (m : Context) (n : Option ℕ) (off on : Expr) (t : Tree) → no_lists off on ≡ Some t → (x : List Effect) (v : Tree) (y : List Effect) (u : Tree) (z : List Effect)
      → evaluation d in_body b c off x ≡ comes_to v y → evaluation d in_body b c on y ≡ comes_to u z → trace_change m n (flags_listed v) (flags_listed u) ≡ None
  idle_lists m n off on t h x v y u z k l =
      by_option (no_flags_in off)
      (λ s e. no_off m n (flags_listed v) (flags_listed u) (no_list_value off s e x v y k))
      (λ e. no_on m n (flags_listed v) (flags_listed u) (no_list_value on t (sym (ap (λ o. option_or o (no_flags_in on)) e) ∙ h) y u z l))

  idle_trace : (m : Context) (es : Exprs) (t : Tree) → no_lists_last es ≡ Some t → (x : List Effect) (vs : List Tree) (y : List Effect)
      → evaluation_of_all d in_body b c es x ≡ comes_to vs y → trace_by m vs ≡ None
  idle_trace m no_exprs t h x vs y k = let clash : None ≡ Some t = h in cc
  idle_trace m (and_expr e no_exprs) t h x vs y k = let clash : None ≡ Some t = h in cc
  idle_trace m (and_expr off (and_expr on no_exprs)) t h x vs y k =
      let a : More off (and_expr on no_exprs) x vs = one_more off (and_expr on no_exprs) x vs y k in
      let o : One on a.after a.others = one on a.after a.others a.end a.others_come in
      ap (trace_by m) (a.are ∙ ap (λ l. a.value ∷ l) o.are)
      ∙ idle_lists m (living_pid m.alive (pid m.self_pid)) off on t h x a.value a.after o.value o.after a.comes o.comes
  idle_trace m (and_expr p (and_expr off (and_expr on no_exprs))) t h x vs y k =
      let a : More p (and_expr off (and_expr on no_exprs)) x vs = one_more p (and_expr off (and_expr on no_exprs)) x vs y k in
      let f : More off (and_expr on no_exprs) a.after a.others = one_more off (and_expr on no_exprs) a.after a.others a.end a.others_come in
      let o : One on f.after f.others = one on f.after f.others f.end f.others_come in
      ap (trace_by m) (a.are ∙ ap (λ l. a.value ∷ l) (f.are ∙ ap (λ l. f.value ∷ l) o.are))
      ∙ idle_lists m (living_pid m.alive a.value) off on t h a.after f.value f.after o.value o.after f.comes o.comes
  idle_trace m (and_expr p (and_expr off (and_expr on (and_expr e es)))) t h x vs y k = let clash : None ≡ Some t = h in cc

  idle_none : (r : Option (Tree × List Effect)) → r ≡ None → IsIdle r
  idle_none None e = tt
  idle_none (Some p) e = let clash : Some p ≡ None = e in cc

  -- each action that takes flags
  idle_by : (m : Context) (a : Action) (es : Exprs) (t : Tree) → no_flag_among a es ≡ Some t → (x : List Effect) (vs : List Tree) (y : List Effect)
      → evaluation_of_all d in_body b c es x ≡ comes_to vs y → IsIdle (action_done d a vs m)
  idle_by m enable_trace es t h x vs y k = idle_none _ (ap (option_map (λ l. (word "true", l))) (idle_flag true m es t h x vs y k))
  idle_by m disable_trace es t h x vs y k = idle_none _ (ap (option_map (λ l. (word "true", l))) (idle_flag false m es t h x vs y k))
  idle_by m trace es t h x vs y k = idle_none _ (idle_trace m es t h x vs y k)
  idle_by m message es t h x vs y k = let clash : None ≡ Some t = h in cc
  idle_by m return_trace es t h x vs y k = let clash : None ≡ Some t = h in cc
  idle_by m exception_trace es t h x vs y k = let clash : None ≡ Some t = h in cc
  idle_by m silent es t h x vs y k = let clash : None ≡ Some t = h in cc
  idle_by m caller es t h x vs y k = let clash : None ≡ Some t = h in cc

  -- ---- expressions

  -- what an action is that is a trap
  by_mark : {P : Type 0} (marks calls : Bool) (u : BodyTrap) (o : Option BodyTrap) (t : BodyTrap) → (if marks && not calls then Some u else o) ≡ Some t
      → (marks ≡ true → calls ≡ false → P) → (o ≡ Some t → P) → P
  by_mark true false u o t h f k = f refl refl
  by_mark true true u o t h f k = k h
  by_mark false calls u o t h f k = k h

  some_flag : {P : Type 0} (a : Action) (o : Option Tree) (t : BodyTrap) → option_map (lacks_flag a) o ≡ Some t → ((u : Tree) → o ≡ Some u → P) → P
  some_flag a None t h f = let clash : None ≡ Some t = h in cc
  some_flag a (Some u) t h f = f u refl

  idle_action : (m : Context) (a : Action) (es : Exprs) (t : BodyTrap) → body_trap d (perform a es) ≡ Some t → (x : List Effect) (vs : List Tree) (y : List Effect)
      → evaluation_of_all d in_body b c es x ≡ comes_to vs y → IsIdle (action_done d a vs m)
  idle_action m a es t h x vs y k =
      by_mark (marks_call a) (is_of_calls d) (marks_no_call a) (option_map (lacks_flag a) (no_flag_among a es)) t h
      (λ marks calls. idle_marks d a vs m marks calls)
      (λ o. some_flag a (no_flag_among a es) t o (λ u l. idle_by m a es u l x vs y k))

pub body_traps_do_nothing : BodyTrapsDoNothing
body_traps_do_nothing d (constant u) t h b c x = refl
body_traps_do_nothing d (perform a es) t h b c x =
    idle_call (evaluation_of_all d in_body b c es x) (λ vs y. action_done d a vs (context_after c y)) (λ vs y k. idle_action d b c (context_after c y) a es t h x vs y k)
body_traps_do_nothing d (bound_to n) t h b c x = let clash : None ≡ Some t = h in cc
body_traps_do_nothing d whole_list t h b c x = let clash : None ≡ Some t = h in cc
body_traps_do_nothing d all_bound t h b c x = let clash : None ≡ Some t = h in cc
body_traps_do_nothing d (tuple_of es) t h b c x = let clash : None ≡ Some t = h in cc
body_traps_do_nothing d (list_of es) t h b c x = let clash : None ≡ Some t = h in cc
body_traps_do_nothing d (call f es) t h b c x = let clash : None ≡ Some t = h in cc
body_traps_do_nothing d (and_also es) t h b c x = let clash : None ≡ Some t = h in cc
body_traps_do_nothing d (or_else es) t h b c x = let clash : None ≡ Some t = h in cc
