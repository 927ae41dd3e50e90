-- What a specification gives that acts on its own process alone depends on that process's flags and life alone, and changes its flags alone.
use Rattle.std.proofs.Common.{◌≡◌, ◌<◌, ◌≤◌, ℕ, zero, suc, ◌-◌, Bool, true, false, ◌&&◌, if◌then◌else◌, List, [], ◌∷◌, length, slice_get, Option, Some, None, refl, ap, sym, ◌∙◌, subst, arith}
use Rattle.std.specs.Prelude.{nat_le}
use Rattle.std.specs.Option.{option_map, option_and_then, unwrap_or}
use Rattle.std.proofs.Math.ListN.{set}
use Rattle.std.proofs.lemmas.Bool.Decides.{nat_tests}
use Rattle.def_term.specs.Tree.{Tree, tuple, list, of_elements}
use Rattle.def_term.specs.Order.{same}
use Rattle.def_term.specs.Names.{Mfa, word}
use Rattle.def_term.specs.Alive.{Alive, is_alive}
use Rattle.def_spec.specs.Flags.{Flag, Flags, no_flags, only, union, without, silent_flag, flag_named, flags_listed, FlagTable, flags_in, with_flags_in}
use Rattle.def_spec.specs.Matching.{Bindings, value_bound, bindings_of}
use Rattle.def_spec.specs.Functions.{truth, is_true, apply}
use Rattle.def_spec.specs.Expressions.{Dialect, for_calls, for_sends, for_receives, Action, message, return_trace, exception_trace, silent, enable_trace, disable_trace, trace, caller, Expr, bound_to, whole_list, all_bound, constant, tuple_of, list_of, call, and_also, or_else, perform, Exprs, no_exprs, and_expr, Context, Effect, gives_message, traces_return, traces_exception, silences, changes, change_flags, flags_by, flags_after, context_after, change, change_by, is_changing, trace_change, silence, of_calls, action_done, Position, in_condition, in_body, Evaluation, comes_to, faults, then_on, or_fault, settle, with_effect, evaluation, evaluation_of_all, evaluation_while_true, evaluation_until_true, its_value, its_effects, is_true_value, effects_of_all}
use Rattle.def_spec.specs.Outcome.{Clause, Outcome, no_match, matched, each_true, firing_bindings, or_next, outcome_in}
use Rattle.def_explore.specs.Lists.{EachOf}
use Rattle.def_explore.proofs.Lists.{each_both}
use Rattle.def_independence.specs.OwnEffects.{count_exprs, names_no_process, acts_on_self, act_on_self, clauses_act_on_self}
use Rattle.def_independence.proofs.Numbers.{both_true}

-- ---- one place of a table

pub get_set : {X : Type 0} (xs : List X) (i : ℕ) (a : X) → slice_get (set xs i a) i ≡ option_map (λ _. a) (slice_get xs i)
get_set [] i a = refl
get_set (x ∷ xs) zero a = refl
get_set (x ∷ xs) (suc i) a = get_set xs i a

pub set_alike : {X : Type 0} (xs ys : List X) (i : ℕ) (a b : X) → slice_get xs i ≡ slice_get ys i → a ≡ b → slice_get (set xs i a) i ≡ slice_get (set ys i b) i
set_alike xs ys i a b h e = get_set xs i a ∙ (λ j. option_map (λ _. e j) (h j)) ∙ sym (get_set ys i b)

-- ---- effects on the own process

-- the effect changes no flags of another process
abbrev pub IsOwnEffect : ℕ → Effect → Type 0
IsOwnEffect p (gives_message t) = Unit {0}
IsOwnEffect p traces_return = Unit {0}
IsOwnEffect p traces_exception = Unit {0}
IsOwnEffect p (silences b) = Unit {0}
IsOwnEffect p (changes n off on) = n ≡ p

abbrev pub AreOwnEffects : ℕ → List Effect → Type 0
AreOwnEffects p es = EachOf (IsOwnEffect p) es

module _ (p : ℕ) where
  -- both tables have the same flags of the process
  abbrev AlikeFlags : FlagTable → FlagTable → Type 0
  AlikeFlags t u = slice_get t (p - 100) ≡ slice_get u (p - 100)

  by_alike : (e : Effect) → IsOwnEffect p e → (t u : FlagTable) → AlikeFlags t u → AlikeFlags (flags_by p t e) (flags_by p u e)
  by_alike (gives_message x) own t u h = h
  by_alike traces_return own t u h = h
  by_alike traces_exception own t u h = h
  by_alike (silences b) own t u h = set_alike t u (p - 100) _ _ h (λ i. if b then union (unwrap_or (h i) no_flags) (only silent_flag) else without (unwrap_or (h i) no_flags) (only silent_flag))
  by_alike (changes n off on) own t u h =
      subst (λ m. AlikeFlags (with_flags_in t m (change_flags (flags_in t m) off on)) (with_flags_in u m (change_flags (flags_in u m) off on))) (sym own)
      (set_alike t u (p - 100) _ _ h (λ i. change_flags (unwrap_or (h i) no_flags) off on))

  pub after_alike : (es : List Effect) → AreOwnEffects p es → (t u : FlagTable) → AlikeFlags t u → AlikeFlags (flags_after p t es) (flags_after p u es)
  after_alike [] own t u h = h
  after_alike (e ∷ es) own t u h = after_alike es own.1 (flags_by p t e) (flags_by p u e) (by_alike e own.0 t u h)

-- ---- evaluations

-- its value is so, and its effects are on the own process
abbrev pub Comes : {X : Type 0} → ℕ → (X → Type 0) → Evaluation X → Type 0
Comes p P (comes_to t es) = P t × AreOwnEffects p es
Comes p P (faults es) = AreOwnEffects p es

abbrev Any : {X : Type 0} → X → Type 0
Any x = Unit {0}

-- an expression has no action on another process, or stands in a condition
abbrev Fine : Position → Bool → Type 0
Fine in_condition b = Unit {0}
Fine in_body b = b ≡ true

fine_both : (part : Position) (a b : Bool) → Fine part (a && b) → Fine part a × Fine part b
fine_both in_condition a b h = (tt, tt)
fine_both in_body true b h = (refl, h)
fine_both in_body false b h = absurd (let k : false ≡ true = h in cc)

then_same : {X Y : Type 0} (p : ℕ) (P : X → Type 0) (Q : Y → Type 0) (r s : Evaluation X) (f g : X → List Effect → Evaluation Y) → r ≡ s → Comes p P r
    → ((t : X) (y : List Effect) → P t → AreOwnEffects p y → (f t y ≡ g t y) × Comes p Q (f t y)) → (then_on r f ≡ then_on s g) × Comes p Q (then_on r f)
then_same p P Q r s f g e own h = (go r own ∙ ap (λ x. then_on x g) e, next r own)
  where
    go : (r : Evaluation _) → Comes p P r → then_on r f ≡ then_on r g
    go (comes_to t y) own = (h t y own.0 own.1).0
    go (faults y) own = refl

    next : (r : Evaluation _) → Comes p P r → Comes p Q (then_on r f)
    next (comes_to t y) own = (h t y own.0 own.1).1
    next (faults y) own = own

-- ---- actions

-- the result of an action
abbrev DoneOwn : ℕ → Option (Tree × List Effect) → Type 0
DoneOwn p None = Unit {0}
DoneOwn p (Some r) = AreOwnEffects p r.1

or_fault_own : (p : ℕ) (o : Option Tree) (y : List Effect) → AreOwnEffects p y → Comes p Any (or_fault o y)
or_fault_own p None y own = own
or_fault_own p (Some t) y own = (tt, own)

not_within : (k n : ℕ) → n < k → nat_le k n ≡ true → ⊥
not_within k n less h = let is : k ≤ n = grind (arith, nat_tests, h) in omega (arith, less, is)

calls_own : (p : ℕ) (d : Dialect) (e : Effect) → IsOwnEffect p e → AreOwnEffects p (of_calls d e)
calls_own p for_calls e h = (h, tt)
calls_own p for_sends e h = tt
calls_own p for_receives e h = tt

silence_own : (p : ℕ) (t : Tree) → AreOwnEffects p (silence t)
silence_own p t = go (same t (word "true")) (same t (word "false"))
  where
    go : (b c : Bool) → AreOwnEffects p (if b then silences true ∷ [] else if c then silences false ∷ [] else [])
    go true c = (tt, tt)
    go false true = (tt, tt)
    go false false = tt

-- the context with these processes alive, and these flags
abbrev pub context_with : List Tree → ℕ → Option Mfa → Alive → FlagTable → Context
context_with ml p cm al fl = record { matched_list = ml; self_pid = p; caller_mfa = cm; alive = al; flags = fl }

module _ (d : Dialect) (ml : List Tree) (p : ℕ) (cm : Option Mfa) (al bl : Alive) (fl gl : FlagTable) (lives : slice_get al (p - 100) ≡ slice_get bl (p - 100)) (flagged : slice_get fl (p - 100) ≡ slice_get gl (p - 100)) where
  life : is_alive al p ≡ is_alive bl p
  life = ap (λ o. nat_le 100 p && unwrap_or o false) lives

  abbrev DoneSame : Action → List Tree → Type 0
  DoneSame a ts = (action_done d a ts (context_with ml p cm al fl) ≡ action_done d a ts (context_with ml p cm bl gl)) × DoneOwn p (action_done d a ts (context_with ml p cm al fl))

  change_own : (on b : Bool) (o : Option Flag) → DoneOwn p (option_map (λ es. (word "true", es)) (change on (if b then Some p else None) o))
  change_own on true (Some f) = (refl, tt)
  change_own on true None = tt
  change_own on false (Some f) = tt
  change_own on false None = tt

  change_same : (on : Bool) (f : Tree)
      → (option_map (λ es. let r : Tree × List Effect = (word "true", es) in r) (change_by on (context_with ml p cm al fl) (f ∷ []))
      ≡ option_map (λ es. let r : Tree × List Effect = (word "true", es) in r) (change_by on (context_with ml p cm bl gl) (f ∷ [])))
      × DoneOwn p (option_map (λ es. let r : Tree × List Effect = (word "true", es) in r) (change_by on (context_with ml p cm al fl) (f ∷ [])))
  change_same on f =
      (ap (λ b. option_map (λ es. let r : Tree × List Effect = (word "true", es) in r) (change on (if b then Some p else None) (flag_named f))) life, change_own on (is_alive al p) (flag_named f))

  trace_at : (b : Bool) (o n : Option Flags) → trace_change (context_with ml p cm al fl) (if b then Some p else None) o n ≡ trace_change (context_with ml p cm bl gl) (if b then Some p else None) o n
  trace_at true (Some x) (Some y) = λ i. Some (truth (is_changing (unwrap_or (flagged i) no_flags) x y), changes p x y ∷ [])
  trace_at true (Some x) None = refl
  trace_at true None (Some y) = refl
  trace_at true None None = refl
  trace_at false (Some x) (Some y) = refl
  trace_at false (Some x) None = refl
  trace_at false None (Some y) = refl
  trace_at false None None = refl

  trace_own : (b : Bool) (o n : Option Flags) → DoneOwn p (trace_change (context_with ml p cm al fl) (if b then Some p else None) o n)
  trace_own true (Some x) (Some y) = (refl, tt)
  trace_own true (Some x) None = tt
  trace_own true None (Some y) = tt
  trace_own true None None = tt
  trace_own false (Some x) (Some y) = tt
  trace_own false (Some x) None = tt
  trace_own false None (Some y) = tt
  trace_own false None None = tt

  trace_same : (off on : Tree) → DoneSame trace (off ∷ on ∷ [])
  trace_same off on = (
    trace_at (is_alive al p) (flags_listed off) (flags_listed on)
        ∙ ap (λ b. trace_change (context_with ml p cm bl gl) (if b then Some p else None) (flags_listed off) (flags_listed on)) life,
    trace_own (is_alive al p) (flags_listed off) (flags_listed on),
  )

  done_same : (a : Action) (ts : List Tree) → names_no_process a (length ts) ≡ true → DoneSame a ts
  done_same message [] h = (refl, tt)
  done_same message (t ∷ []) h = (refl, (tt, tt))
  done_same message (t ∷ u ∷ ts) h = (refl, tt)
  done_same return_trace ts h = (refl, calls_own p d traces_return tt)
  done_same exception_trace ts h = (refl, calls_own p d traces_exception tt)
  done_same silent [] h = (refl, tt)
  done_same silent (t ∷ []) h = (refl, silence_own p t)
  done_same silent (t ∷ u ∷ ts) h = (refl, tt)
  done_same enable_trace [] h = (refl, tt)
  done_same enable_trace (f ∷ []) h = change_same true f
  done_same enable_trace (t ∷ u ∷ ts) h = absurd (not_within (suc (suc (length ts))) 1 (omega arith) h)
  done_same disable_trace [] h = (refl, tt)
  done_same disable_trace (f ∷ []) h = change_same false f
  done_same disable_trace (t ∷ u ∷ ts) h = absurd (not_within (suc (suc (length ts))) 1 (omega arith) h)
  done_same trace [] h = (refl, tt)
  done_same trace (t ∷ []) h = (refl, tt)
  done_same trace (t ∷ u ∷ []) h = trace_same t u
  done_same trace (t ∷ u ∷ v ∷ ts) h = absurd (not_within (suc (suc (suc (length ts)))) 2 (omega arith) h)
  done_same caller ts h = (refl, tt)

-- ---- expressions

if_same : (p : ℕ) (b : Bool) (r s u v : Evaluation Tree) → (r ≡ s) × Comes p Any r → (u ≡ v) × Comes p Any u → ((if b then r else u) ≡ (if b then s else v)) × Comes p Any (if b then r else u)
if_same p true r s u v h k = h
if_same p false r s u v h k = k

-- there are as many values as expressions
abbrev HasCount : Exprs → List Tree → Type 0
HasCount es ts = length ts ≡ count_exprs es

module _ (d : Dialect) (b : Bindings) (ml : List Tree) (p : ℕ) (cm : Option Mfa) (al bl : Alive) (fl gl : FlagTable) (lives : slice_get al (p - 100) ≡ slice_get bl (p - 100)) (flagged : slice_get fl (p - 100) ≡ slice_get gl (p - 100)) where
  abbrev here : Context
  here = context_with ml p cm al fl

  abbrev there : Context
  there = context_with ml p cm bl gl

  with_own : (r : Option (Tree × List Effect)) (y : List Effect) → AreOwnEffects p y → DoneOwn p r → Comes p Any (with_effect in_body r y)
  with_own None y own done = (tt, own)
  with_own (Some r) y own done = (tt, each_both (IsOwnEffect p) y r.1 own done)

  perform_same : (part : Position) (a : Action) (es : Exprs) → Fine part (names_no_process a (count_exprs es)) → (ts : List Tree) (y : List Effect) → HasCount es ts → AreOwnEffects p y
      → (with_effect part (action_done d a ts (context_after here y)) y ≡ with_effect part (action_done d a ts (context_after there y)) y) × Comes p Any (with_effect part (action_done d a ts (context_after here y)) y)
  perform_same in_condition a es fine ts y count own = (refl, own)
  perform_same in_body a es fine ts y count own =
      let done : DoneSame d ml p cm al bl (flags_after p fl y) (flags_after p gl y) lives (after_alike p y own fl gl flagged) a ts =
      done_same d ml p cm al bl (flags_after p fl y) (flags_after p gl y) lives (after_alike p y own fl gl flagged) a ts (ap (names_no_process a) count ∙ fine) in
      (ap (λ r. with_effect in_body r y) done.0, with_own (action_done d a ts (context_after here y)) y own done.1)

  module _ (part : Position) where
    abbrev SameOf : Expr → Type 0
    SameOf e = (x : List Effect) → AreOwnEffects p x → (evaluation d part b here e x ≡ evaluation d part b there e x) × Comes p Any (evaluation d part b here e x)

    abbrev SameAll : Exprs → Type 0
    SameAll es = (x : List Effect) → AreOwnEffects p x → (evaluation_of_all d part b here es x ≡ evaluation_of_all d part b there es x) × Comes p (HasCount es) (evaluation_of_all d part b here es x)

    abbrev SameWhile : Exprs → Type 0
    SameWhile es = (x : List Effect) → AreOwnEffects p x → (evaluation_while_true d part b here es x ≡ evaluation_while_true d part b there es x) × Comes p Any (evaluation_while_true d part b here es x)

    abbrev SameUntil : Exprs → Type 0
    SameUntil es = (x : List Effect) → AreOwnEffects p x → (evaluation_until_true d part b here es x ≡ evaluation_until_true d part b there es x) × Comes p Any (evaluation_until_true d part b here es x)

    all_then : (es : Exprs) → SameAll es → (f : List Tree → List Effect → Evaluation Tree) → ((ts : List Tree) (y : List Effect) → AreOwnEffects p y → Comes p Any (f ts y)) → (x : List Effect) → AreOwnEffects p x
        → (then_on (evaluation_of_all d part b here es x) f ≡ then_on (evaluation_of_all d part b there es x) f) × Comes p Any (then_on (evaluation_of_all d part b here es x) f)
    all_then es all f own x before =
        then_same p (HasCount es) Any (evaluation_of_all d part b here es x) (evaluation_of_all d part b there es x) f f (all x before).0 (all x before).1 (λ ts y _ o. (refl, own ts y o))

    mutual
      same_of : (e : Expr) → Fine part (acts_on_self e) → SameOf e
      same_of (bound_to n) fine x own = (refl, or_fault_own p (value_bound b n) x own)
      same_of whole_list fine x own = (refl, (tt, own))
      same_of all_bound fine x own = (refl, (tt, own))
      same_of (constant t) fine x own = (refl, (tt, own))
      same_of (tuple_of es) fine x own = all_then es (same_all es fine) (λ ts y. comes_to (tuple (of_elements ts)) y) (λ ts y o. (tt, o)) x own
      same_of (list_of es) fine x own = all_then es (same_all es fine) (λ ts y. comes_to (list (of_elements ts)) y) (λ ts y o. (tt, o)) x own
      same_of (call f es) fine x own = all_then es (same_all es fine) (λ ts y. or_fault (settle part (apply f ts p)) y) (λ ts y o. or_fault_own p (settle part (apply f ts p)) y o) x own
      same_of (and_also es) fine x own = same_while es fine x own
      same_of (or_else es) fine x own = same_until es fine x own
      same_of (perform a es) fine x own =
          let parts : Fine part (names_no_process a (count_exprs es)) × Fine part (act_on_self es) = fine_both part (names_no_process a (count_exprs es)) (act_on_self es) fine in
          let all : SameAll es = same_all es parts.1 in
          then_same p (HasCount es) Any (evaluation_of_all d part b here es x) (evaluation_of_all d part b there es x)
          (λ ts y. with_effect part (action_done d a ts (context_after here y)) y) (λ ts y. with_effect part (action_done d a ts (context_after there y)) y)
          (all x own).0 (all x own).1 (λ ts y count o. perform_same part a es parts.0 ts y count o)

      same_all : (es : Exprs) → Fine part (act_on_self es) → SameAll es
      same_all no_exprs fine x own = (refl, (refl, own))
      same_all (and_expr e es) fine x own =
          let parts : Fine part (acts_on_self e) × Fine part (act_on_self es) = fine_both part (acts_on_self e) (act_on_self es) fine in
          let first : SameOf e = same_of e parts.0 in
          let rest : SameAll es = same_all es parts.1 in
          then_same p Any (HasCount (and_expr e es)) (evaluation d part b here e x) (evaluation d part b there e x)
          (λ t y. then_on (evaluation_of_all d part b here es y) (λ ts z. comes_to (t ∷ ts) z)) (λ t y. then_on (evaluation_of_all d part b there es y) (λ ts z. comes_to (t ∷ ts) z))
          (first x own).0 (first x own).1
          (λ t y _ o.
          then_same p (HasCount es) (HasCount (and_expr e es)) (evaluation_of_all d part b here es y) (evaluation_of_all d part b there es y) (λ ts z. comes_to (t ∷ ts) z) (λ ts z. comes_to (t ∷ ts) z)
          (rest y o).0 (rest y o).1 (λ ts z count own. (refl, (ap suc count, own))))

      same_while : (es : Exprs) → Fine part (act_on_self es) → SameWhile es
      same_while no_exprs fine x own = (refl, (tt, own))
      same_while (and_expr e es) fine x own =
          let parts : Fine part (acts_on_self e) × Fine part (act_on_self es) = fine_both part (acts_on_self e) (act_on_self es) fine in
          let first : SameOf e = same_of e parts.0 in
          let rest : SameWhile es = same_while es parts.1 in
          then_same p Any Any (evaluation d part b here e x) (evaluation d part b there e x)
          (λ t y. if is_true t then evaluation_while_true d part b here es y else comes_to (truth false) y) (λ t y. if is_true t then evaluation_while_true d part b there es y else comes_to (truth false) y)
          (first x own).0 (first x own).1
          (λ t y _ o. if_same p (is_true t) _ _ _ _ (rest y o) (refl, (tt, o)))

      same_until : (es : Exprs) → Fine part (act_on_self es) → SameUntil es
      same_until no_exprs fine x own = (refl, (tt, own))
      same_until (and_expr e es) fine x own =
          let parts : Fine part (acts_on_self e) × Fine part (act_on_self es) = fine_both part (acts_on_self e) (act_on_self es) fine in
          let first : SameOf e = same_of e parts.0 in
          let rest : SameUntil es = same_until es parts.1 in
          then_same p Any Any (evaluation d part b here e x) (evaluation d part b there e x)
          (λ t y. if is_true t then comes_to (truth true) y else evaluation_until_true d part b here es y) (λ t y. if is_true t then comes_to (truth true) y else evaluation_until_true d part b there es y)
          (first x own).0 (first x own).1
          (λ t y _ o. if_same p (is_true t) _ _ _ _ (refl, (tt, o)) (rest y o))

  effects_own : (P : List Tree → Type 0) (r : Evaluation (List Tree)) → Comes p P r → AreOwnEffects p (its_effects r)
  effects_own P (comes_to t es) own = own.1
  effects_own P (faults es) own = own

  -- the effects of a body
  body_same : (es : Exprs) → act_on_self es ≡ true → (effects_of_all d b here es ≡ effects_of_all d b there es) × AreOwnEffects p (effects_of_all d b here es)
  body_same es fine =
      let all : (evaluation_of_all d in_body b here es [] ≡ evaluation_of_all d in_body b there es []) × Comes p (HasCount es) (evaluation_of_all d in_body b here es []) = same_all in_body es fine [] tt in
      (ap its_effects all.0, effects_own (HasCount es) (evaluation_of_all d in_body b here es []) all.1)

  -- the conditions
  conditions_same : (es : Exprs) → each_true d b here es ≡ each_true d b there es
  conditions_same no_exprs = refl
  conditions_same (and_expr e es) = λ i. is_true_value (its_value ((same_of in_condition e tt [] tt).0 i)) && conditions_same es i

-- ---- specifications

-- the effects of an outcome
abbrev pub OwnOutcome : ℕ → Outcome → Type 0
OwnOutcome p no_match = Unit {0}
OwnOutcome p (matched es) = AreOwnEffects p es

module _ (d : Dialect) (ml : List Tree) (p : ℕ) (cm : Option Mfa) (al bl : Alive) (fl gl : FlagTable) (lives : slice_get al (p - 100) ≡ slice_get bl (p - 100)) (flagged : slice_get fl (p - 100) ≡ slice_get gl (p - 100)) where
  firing_same : (k : Clause) → firing_bindings d k (context_with ml p cm al fl) ≡ firing_bindings d k (context_with ml p cm bl gl)
  firing_same k = go (bindings_of k.head (list (of_elements ml)))
    where
      go : (o : Option Bindings) → option_and_then (λ b. if each_true d b (context_with ml p cm al fl) k.conditions then Some b else None) o
          ≡ option_and_then (λ b. if each_true d b (context_with ml p cm bl gl) k.conditions then Some b else None) o
      go None = refl
      go (Some b) = ap (λ t. if t then Some b else None) (conditions_same d b ml p cm al bl fl gl lives flagged k.conditions)

  abbrev pub OutcomeSame : List Clause → Type 0
  OutcomeSame ks = (outcome_in d ks (context_with ml p cm al fl) ≡ outcome_in d ks (context_with ml p cm bl gl)) × OwnOutcome p (outcome_in d ks (context_with ml p cm al fl))

  pub outcome_same : (ks : List Clause) → clauses_act_on_self ks ≡ true → OutcomeSame ks
  outcome_same [] h = (refl, tt)
  outcome_same (k ∷ ks) h = whole (outcome_same ks (both_true (act_on_self k.body) (clauses_act_on_self ks) h).1)
    where
      fine : act_on_self k.body ≡ true
      fine = (both_true (act_on_self k.body) (clauses_act_on_self ks) h).0

      go : OutcomeSame ks → (o : Option Bindings)
          → (or_next d o (context_with ml p cm al fl) k.body (outcome_in d ks (context_with ml p cm al fl)) ≡ or_next d o (context_with ml p cm bl gl) k.body (outcome_in d ks (context_with ml p cm bl gl)))
          × OwnOutcome p (or_next d o (context_with ml p cm al fl) k.body (outcome_in d ks (context_with ml p cm al fl)))
      go rest None = rest
      go rest (Some b) =
          let body : (effects_of_all d b (context_with ml p cm al fl) k.body ≡ effects_of_all d b (context_with ml p cm bl gl) k.body) × AreOwnEffects p (effects_of_all d b (context_with ml p cm al fl) k.body) =
          body_same d b ml p cm al bl fl gl lives flagged k.body fine in
          (ap matched body.0, body.1)

      whole : OutcomeSame ks → (outcome_in d (k ∷ ks) (context_with ml p cm al fl) ≡ outcome_in d (k ∷ ks) (context_with ml p cm bl gl)) × OwnOutcome p (outcome_in d (k ∷ ks) (context_with ml p cm al fl))
      whole rest = (
        (go rest (firing_bindings d k (context_with ml p cm al fl))).0
            ∙ ap (λ o. or_next d o (context_with ml p cm bl gl) k.body (outcome_in d ks (context_with ml p cm bl gl))) (firing_same k),
        (go rest (firing_bindings d k (context_with ml p cm al fl))).1,
      )
