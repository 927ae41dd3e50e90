-- Reasons, one element, one expression or one condition after another.
use Rattle.std.proofs.Common.{◌≡◌, ℕ, zero, suc, ◌+◌, ◌<◌, List, [], ◌∷◌, length, drop, refl, sym, ap, ◌∙◌, arith, Option, Some, None, Bool, true, false, if◌then◌else◌}
use Rattle.std.specs.Bool.{beq}
use Rattle.std.specs.Cmp.{booleans_Decides}
use Rattle.def_term.specs.Tree.{Tree, list, of_elements}
use Rattle.def_spec.specs.Functions.{Func, is_true}
use Rattle.def_spec.specs.Matching.{Bindings, bindings_of}
use Rattle.def_spec.specs.Expressions as ex
use Rattle.def_spec.specs.Expressions.{Exprs, and_expr}
use Rattle.def_spec.specs.Outcome.{Clause, matched_term}
use Rattle.def_explain.specs.Mismatches.{mismatch_of}
use Rattle.def_explain.specs.Heads.{HeadReason, of_mismatch, head_reason}
use Rattle.def_explain.specs.Reasons.{Reason, by_head, by_condition, has_value, bound_within, untrue_by, untrue_in, as_reason, reason_by}
use Rattle.def_explain.specs.Values.{function_value, or_itself, or_after, after_true, after_other, fault_in, fault_in_one, fault_while_true, fault_until_true}
use Rattle.def_explain.specs.Verdicts.{fails, fires_with, verdict_of}
use Rattle.def_spec.proofs.Conditions.{of-bound, of-call, of-action}
use Rattle.def_explain.proofs.HeadStops.{head_there}
use Rattle.def_explain.proofs.ClauseVerdicts.{verdict_with, verdict_without}
use Rattle.std.specs.declared.alloc.Allocator.{Ghosts}
use Rattle.tn_head.specs.Views.{bindings_seen}
use Rattle.tn_spec.specs.Views.{dialect_of, head_seen}
use Rattle.tn_spec.specs.declared.pattern.Head.{Head}
use Rattle.tn_spec.specs.declared.pattern.Head.TheVariants as shapes
use Rattle.tn_action.specs.Parts.{eval_position_seen}
use Rattle.tn_action.specs.EvalContexts.{evaluation_in}
use Rattle.tn_action.proofs.Steps.{condition_value}
use Rattle.tn_action.specs.Views.{context_seen}
use Rattle.tn_action.specs.declared.eval_context.Position.TheVariants.{Condition}
use Rattle.tn_action.specs.declared.eval_context.EvalContext.{EvalContext}
use Rattle.tn_verdict.specs.Reasons as scenes

-- ---- heads

-- a head's reason is by the place where it first differs
pub head-by-place : {P : Type 0} (h : Head P) (ts : List Tree) → head_reason (head_seen h) ts ≡ of_mismatch (mismatch_of (head_seen h) (list (of_elements ts)))
head-by-place (shapes.Variable n) ts = refl
head-by-place shapes.Anything ts = refl
head-by-place (shapes.List ps) ts = refl

-- ---- faults

module _ (d : ex.Dialect) (b : Bindings) (c : ex.Context) where
  abbrev pub turn : Bool → Exprs → Option ex.Expr
  turn true es = fault_until_true d b c es
  turn false es = fault_while_true d b c es

  pub one-faults : (es rest : Exprs) (e x : ex.Expr) (total : Option ex.Expr) → es ≡ and_expr e rest → fault_in d b c e ≡ Some x → fault_in_one d b c es ≡ total → Some x ≡ total
  one-faults es rest e x total is fault h = sym (ap (fault_in_one d b c) is ∙ ap (λ o. or_after o (fault_in_one d b c rest)) fault) ∙ h

  pub one-goes-on : (es rest : Exprs) (e : ex.Expr) (total : Option ex.Expr) → es ≡ and_expr e rest → fault_in d b c e ≡ None → fault_in_one d b c es ≡ total → fault_in_one d b c rest ≡ total
  one-goes-on es rest e total is fault h = sym (ap (fault_in_one d b c) is ∙ ap (λ o. or_after o (fault_in_one d b c rest)) fault) ∙ h

  pub same-first : (es rest : Exprs) (e f : ex.Expr) → es ≡ and_expr e rest → es ≡ and_expr f rest → e ≡ f
  same-first es rest e f one other = cc

  -- a call's own fault, where none of its arguments faults
  pub variable-fault : (e : ex.Expr) (n : ℕ) → e ≡ ex.bound_to n → fault_in d b c e ≡ or_itself None e (ex.value d ex.in_condition b c e)
  variable-fault e n is =
      ap (fault_in d b c) is ∙ ap (or_itself None (ex.bound_to n)) (sym (of-bound d b c n)) ∙ sym (ap (λ x. or_itself None x (ex.value d ex.in_condition b c x)) is)

  pub call-fault : (e : ex.Expr) (f : Func) (es : Exprs) (i : Option ex.Expr) → e ≡ ex.call f es → i ≡ fault_in_one d b c es → fault_in d b c e ≡ or_itself i e (ex.value d ex.in_condition b c e)
  call-fault e f es i is inner =
      ap (fault_in d b c) is ∙ ap (λ j. or_itself j (ex.call f es) (function_value d b c f es)) (sym inner)
      ∙ ap (or_itself i (ex.call f es)) (sym (of-call d b c f es)) ∙ sym (ap (λ x. or_itself i x (ex.value d ex.in_condition b c x)) is)

  pub action-fault : (e : ex.Expr) (a : ex.Action) (es : Exprs) (i : Option ex.Expr) → e ≡ ex.perform a es → i ≡ fault_in_one d b c es → fault_in d b c e ≡ or_itself i e (ex.value d ex.in_condition b c e)
  action-fault e a es i is inner =
      ap (fault_in d b c) is ∙ ap (λ j. or_itself j (ex.perform a es) None) (sym inner)
      ∙ ap (or_itself i (ex.perform a es)) (sym (of-action d b c a es)) ∙ sym (ap (λ x. or_itself i x (ex.value d ex.in_condition b c x)) is)

  pub no-fault : (e : ex.Expr) (t : Tree) (i : Option ex.Expr) → fault_in d b c e ≡ or_itself i e (ex.value d ex.in_condition b c e) → i ≡ None → ex.value d ex.in_condition b c e ≡ Some t → None ≡ fault_in d b c e
  no-fault e t i own inner is = sym (own ∙ ap (λ j. or_itself j e (ex.value d ex.in_condition b c e)) inner ∙ ap (or_itself None e) is)

  pub own-fault : (e : ex.Expr) (i : Option ex.Expr) → fault_in d b c e ≡ or_itself i e (ex.value d ex.in_condition b c e) → i ≡ None → ex.value d ex.in_condition b c e ≡ None → Some e ≡ fault_in d b c e
  own-fault e i own inner is = sym (own ∙ ap (λ j. or_itself j e (ex.value d ex.in_condition b c e)) inner ∙ ap (or_itself None e) is)

  -- what follows in turn, by the value
  abbrev follows : Bool → Option Tree → Exprs → Option ex.Expr
  follows true v es = after_other v (turn true es)
  follows false v es = after_true v (turn false es)

  turn-is : (s : Bool) (es rest : Exprs) (e : ex.Expr) (f : Option ex.Expr) (v : Option Tree) → es ≡ and_expr e rest → fault_in d b c e ≡ f → ex.value d ex.in_condition b c e ≡ v → turn s es ≡ or_after f (follows s v rest)
  turn-is true es rest e f v is fault at = ap (turn true) is ∙ ap (λ o. or_after o (after_other (ex.value d ex.in_condition b c e) (turn true rest))) fault ∙ ap (λ o. or_after f (after_other o (turn true rest))) at
  turn-is false es rest e f v is fault at = ap (turn false) is ∙ ap (λ o. or_after o (after_true (ex.value d ex.in_condition b c e) (turn false rest))) fault ∙ ap (λ o. or_after f (after_true o (turn false rest))) at

  follows-none : (s : Bool) (rest : Exprs) → follows s None rest ≡ None
  follows-none true rest = refl
  follows-none false rest = refl

  follows-stop : (s : Bool) (t : Tree) (rest : Exprs) → is_true t ≡ s → follows s (Some t) rest ≡ None
  follows-stop true t rest e = ap (λ z. if z then None else turn true rest) e
  follows-stop false t rest e = ap (λ z. if z then turn false rest else None) e

  follows-on : (s x : Bool) (t : Tree) (rest : Exprs) → is_true t ≡ x → beq x s ≡ false → follows s (Some t) rest ≡ turn s rest
  follows-on true true t rest e n = absurd (cc)
  follows-on true false t rest e n = ap (λ z. if z then None else turn true rest) e
  follows-on false true t rest e n = ap (λ z. if z then turn false rest else None) e
  follows-on false false t rest e n = absurd (cc)

  pub turn-faults : (s : Bool) (es rest : Exprs) (e x : ex.Expr) (total : Option ex.Expr) → es ≡ and_expr e rest → fault_in d b c e ≡ Some x → turn s es ≡ total → Some x ≡ total
  turn-faults s es rest e x total is fault h = sym (turn-is s es rest e (Some x) (ex.value d ex.in_condition b c e) is fault refl) ∙ h

  pub turn-no-value : (s : Bool) (es rest : Exprs) (e : ex.Expr) (total : Option ex.Expr) → es ≡ and_expr e rest → fault_in d b c e ≡ None → ex.value d ex.in_condition b c e ≡ None → turn s es ≡ total → None ≡ total
  turn-no-value s es rest e total is fault at h = sym (turn-is s es rest e None None is fault at ∙ follows-none s rest) ∙ h

  pub turn-stops : (s x : Bool) (es rest : Exprs) (e : ex.Expr) (t : Tree) (total : Option ex.Expr) → es ≡ and_expr e rest → fault_in d b c e ≡ None → ex.value d ex.in_condition b c e ≡ Some t → is_true t ≡ x → beq x s ≡ true → turn s es ≡ total → None ≡ total
  turn-stops s x es rest e t total is fault at holds same h =
      let stop : is_true t ≡ s = holds ∙ (booleans_Decides x s).0 same in
      sym (turn-is s es rest e None (Some t) is fault at ∙ follows-stop s t rest stop) ∙ h

  pub turn-goes-on : (s x : Bool) (es rest : Exprs) (e : ex.Expr) (t : Tree) (total : Option ex.Expr) → es ≡ and_expr e rest → fault_in d b c e ≡ None → ex.value d ex.in_condition b c e ≡ Some t → is_true t ≡ x → beq x s ≡ false → turn s es ≡ total → turn s rest ≡ total
  turn-goes-on s x es rest e t total is fault at holds other h = sym (turn-is s es rest e None (Some t) is fault at ∙ follows-on s x t rest holds other) ∙ h

  -- ---- conditions

  pub untrue-goes-on : (n m : ℕ) (es rest : Exprs) (e : ex.Expr) (t : Tree) (total : Option Reason) → m ≡ n + 1 → es ≡ and_expr e rest → ex.value d ex.in_condition b c e ≡ Some t → is_true t ≡ true → untrue_in d b c n es ≡ total → untrue_in d b c m rest ≡ total
  untrue-goes-on n m es rest e t total next is at holds h =
      let more : m ≡ suc n = omega (arith, next) in
      ap (λ k. untrue_in d b c k rest) more
      ∙ sym (ap (untrue_in d b c n) is ∙ ap (λ v. untrue_by n (bound_within e b) v (fault_in d b c e) (untrue_in d b c (suc n) rest)) at ∙ ap (λ z. if z then untrue_in d b c (suc n) rest else Some (by_condition n (has_value t (bound_within e b)))) holds) ∙ h

  pub untrue-has-value : (n : ℕ) (es rest : Exprs) (e : ex.Expr) (t : Tree) (total : Option Reason) → es ≡ and_expr e rest → ex.value d ex.in_condition b c e ≡ Some t → is_true t ≡ false → untrue_in d b c n es ≡ total → Some (by_condition n (has_value t (bound_within e b))) ≡ total
  untrue-has-value n es rest e t total is at other h =
      sym (ap (untrue_in d b c n) is ∙ ap (λ v. untrue_by n (bound_within e b) v (fault_in d b c e) (untrue_in d b c (suc n) rest)) at ∙ ap (λ z. if z then untrue_in d b c (suc n) rest else Some (by_condition n (has_value t (bound_within e b)))) other) ∙ h

  pub untrue-faults : (n : ℕ) (es rest : Exprs) (e : ex.Expr) (f : Option ex.Expr) (total : Option Reason) → es ≡ and_expr e rest → ex.value d ex.in_condition b c e ≡ None → fault_in d b c e ≡ f → untrue_in d b c n es ≡ total → untrue_by n (bound_within e b) None f (untrue_in d b c (suc n) rest) ≡ total
  untrue-faults n es rest e f total is at fault h =
      sym (ap (untrue_in d b c n) is ∙ ap (λ v. untrue_by n (bound_within e b) v (fault_in d b c e) (untrue_in d b c (suc n) rest)) at ∙ ap (λ x. untrue_by n (bound_within e b) None x (untrue_in d b c (suc n) rest)) fault) ∙ h

-- ---- verdicts

module _ (d : ex.Dialect) (k : Clause) (c : ex.Context) where
  -- a head that doesn't match has a reason
  pub no-head-reason : bindings_of k.head (matched_term c) ≡ None → head_reason k.head c.matched_list ≡ None → ⊥
  no-head-reason b h =
      let z : (r : HeadReason) × (head_reason k.head c.matched_list ≡ Some r) = head_there k.head c.matched_list b in
      absurd (cc (sym h ∙ z.1))

  pub head-fails : (h : HeadReason) → bindings_of k.head (matched_term c) ≡ None → head_reason k.head c.matched_list ≡ Some h → verdict_of d k c ≡ fails (by_head h)
  head-fails h b r = verdict_with d k c (by_head h) (ap (reason_by d k c) b ∙ ap as_reason r)

  pub condition-fails : (b : Bindings) (r : Reason) → bindings_of k.head (matched_term c) ≡ Some b → untrue_in d b c 0 k.conditions ≡ Some r → verdict_of d k c ≡ fails r
  condition-fails b r m u = verdict_with d k c r (ap (reason_by d k c) m ∙ u)

  pub all-hold : (b : Bindings) → bindings_of k.head (matched_term c) ≡ Some b → untrue_in d b c 0 k.conditions ≡ None → verdict_of d k c ≡ fires_with d k c b
  all-hold b m u = verdict_without d k c b (ap (reason_by d k c) m ∙ u) m

-- ---- scenes

-- a value in a scene of conditions, after whatever effects
pub in-conditions : {A : Type 0} {G : Ghosts A} (s : EvalContext A G) (e : ex.Expr) (v : Option Tree) (old new : List ex.Effect) → s.part ≡ Condition → ex.or_fault v new ≡ evaluation_in s e old
    → ex.value (dialect_of s.dialect) ex.in_condition (bindings_seen s.bindings.now) (context_seen s.context.now) e ≡ v
in-conditions s e v old new at is =
    let d = dialect_of s.dialect in
    let b = bindings_seen s.bindings.now in
    let c = context_seen s.context.now in
    condition_value d b c e v old new (is ∙ ap (λ p. ex.evaluation d (eval_position_seen p) b c e old) at)

-- what follows in turn in a scene
pub in-turn : {A : Type 0} {G : Ghosts A} (s : EvalContext A G) (stop : Bool) (es : Exprs) → scenes.fault_in_turn s stop es ≡ turn (dialect_of s.dialect) (bindings_seen s.bindings.now) (context_seen s.context.now) stop es
in-turn s true es = refl
in-turn s false es = refl
