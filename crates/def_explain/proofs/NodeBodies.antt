-- Of a body without the actions by which a node can differ: its effects change no flags, and a node does nothing otherwise with them.
use Rattle.std.proofs.Common.{◌≡◌, ℕ, Bool, true, false, not, ◌||◌, List, [], ◌∷◌, ◌++◌, filter, Option, Some, None, option_to_list, refl, ap, ap₂, ◌∙◌, if◌then◌else◌}
use Rattle.std.specs.List.{list_any, AllByRecursion}
use Rattle.std.proofs.lemmas.Bool.{or_parts, or_from, and_left, and_right}
use Rattle.def_term.specs.Tree.{Tree}
use Rattle.def_spec.specs.Flags.{Flags, send_flag, receive_flag, call_flag, silent_flag, FlagTable, flags_in}
use Rattle.def_spec.specs.Matching.{Bindings, value_bound}
use Rattle.def_spec.specs.Functions.{is_true, apply}
use Rattle.def_spec.specs.Expressions.{Dialect, for_calls, for_sends, for_receives, Action, message, return_trace, exception_trace, silent, enable_trace, disable_trace, trace, caller, Expr, bound_to, whole_list, all_bound, constant, tuple_of, list_of, call, and_also, or_else, perform, Exprs, no_exprs, and_expr, Context, Effect, gives_message, traces_return, traces_exception, silences, changes, flags_after, context_after, of_calls, action_done, Position, in_condition, in_body, Evaluation, comes_to, faults, then_on, or_fault, settle, with_effect, evaluation, evaluation_of_all, evaluation_while_true, evaluation_until_true, its_effects, effects_of_all}
use Rattle.def_spec.specs.Outcome.{Clause, or_next, firing_bindings, outcome_in}
use Rattle.def_node.specs.Event.{Call}
use Rattle.def_session.specs.Settings.{FunctionSetting, Setting, off, plain, by, has_among, setting_for}
use Rattle.def_session.specs.Session.{effects_of_outcome, evaluated_by}
use Rattle.def_explain.specs.Reasons.{Reason, reason_of}
use Rattle.def_explain.specs.Verdicts.{verdict_by}
use Rattle.def_trap.specs.Actions.{is_of_calls}
use Rattle.def_explain.specs.Differences.{node_ends, reads_freed, suppresses_message, leaves_no_mark, ignores_silent, evaluates_from_right, reads_no_list, faults_in_logic, later_silent, is_silent_by, has_none, loses_last_flag, gets_flag_again, silences_without_flags, has_list_of_none, one_shows_order, difference_where, is_of_sends, body_differs, body_differences, clause_differences, differences_by, firing_differences, setting_differences}
use Rattle.def_explain.specs.Logic.{clause_has_logic_on_other}
use Rattle.def_explain.specs.NodeCommands.{can_differ_by, expression_can_differ, one_can_differ, one_calls_logic, clause_can_differ, setting_can_differ}
use Rattle.def_explain.proofs.Logic.{no_logic_in_clause}

-- ---- effects

-- a change of flags
abbrev pub effect_can_differ : Effect → Bool
effect_can_differ (gives_message t) = false
effect_can_differ traces_return = false
effect_can_differ traces_exception = false
effect_can_differ (silences b) = true
effect_can_differ (changes n cleared set) = true

-- none of them is such
abbrev pub ArePlainEffects : List Effect → Type 0
ArePlainEffects es = AllByRecursion (λ e. effect_can_differ e ≡ false) es

-- where there are effects, none is such
abbrev pub HasPlainEffects : Option (List Effect) → Type 0
HasPlainEffects None = Unit {0}
HasPlainEffects (Some es) = ArePlainEffects es

-- nor of two lists of them
plain-append : (es fs : List Effect) → ArePlainEffects es → ArePlainEffects fs → ArePlainEffects (es ++ fs)
plain-append [] fs h k = k
plain-append (e ∷ es) fs h k = (h.0, plain-append es fs h.1 k)

-- ---- actions

-- where an action has a value, none of its effects is such
abbrev IsPlainResult : Option (Tree × List Effect) → Type 0
IsPlainResult None = Unit {0}
IsPlainResult (Some p) = ArePlainEffects p.1

plain-of-calls : (d : Dialect) (e : Effect) → effect_can_differ e ≡ false → ArePlainEffects (of_calls d e)
plain-of-calls for_calls e h = (h, tt)
plain-of-calls for_sends e h = tt
plain-of-calls for_receives e h = tt

plain-action : (d : Dialect) (a : Action) (ts : List Tree) (c : Context) → can_differ_by a ≡ false → IsPlainResult (action_done d a ts c)
plain-action d message [] c h = tt
plain-action d message (t ∷ []) c h = (refl, tt)
plain-action d message (t ∷ u ∷ ts) c h = tt
plain-action d return_trace ts c h = plain-of-calls d traces_return refl
plain-action d caller ts c h = tt
plain-action d exception_trace ts c h = plain-of-calls d traces_exception refl
plain-action d silent ts c h = absurd (cc h)
plain-action d enable_trace ts c h = absurd (cc h)
plain-action d disable_trace ts c h = absurd (cc h)
plain-action d trace ts c h = absurd (cc h)

-- ---- evaluation

-- with a value or a fault, none of the effects is such
abbrev IsPlainEvaluation : {X : Type 0} → Evaluation X → Type 0
IsPlainEvaluation r = ArePlainEffects (its_effects r)

then-plain : {X Y : Type 0} (r : Evaluation X) (f : X → List Effect → Evaluation Y) → IsPlainEvaluation r → ((t : X) (es : List Effect) → ArePlainEffects es → IsPlainEvaluation (f t es)) → IsPlainEvaluation (then_on r f)
then-plain (comes_to t es) f h k = k t es h
then-plain (faults es) f h k = h

or-fault-plain : {X : Type 0} (o : Option X) (es : List Effect) → ArePlainEffects es → IsPlainEvaluation (or_fault o es)
or-fault-plain None es h = h
or-fault-plain (Some t) es h = h

with-effect-plain : (part : Position) (o : Option (Tree × List Effect)) (es : List Effect) → IsPlainResult o → ArePlainEffects es → IsPlainEvaluation (with_effect part o es)
with-effect-plain in_condition o es k h = h
with-effect-plain in_body None es k h = h
with-effect-plain in_body (Some p) es k h = plain-append es p.1 h k

either-plain : {X : Type 0} (b : Bool) (r q : Evaluation X) → IsPlainEvaluation r → IsPlainEvaluation q → IsPlainEvaluation (if b then r else q)
either-plain true r q h k = h
either-plain false r q h k = k

module _ (d : Dialect) (part : Position) (b : Bindings) (c : Context) where
  mutual
    plain-evaluation : (e : Expr) (x : List Effect) → expression_can_differ e ≡ false → ArePlainEffects x → IsPlainEvaluation (evaluation d part b c e x)
    plain-evaluation (bound_to n) x k h = or-fault-plain (value_bound b n) x h
    plain-evaluation whole_list x k h = h
    plain-evaluation all_bound x k h = h
    plain-evaluation (constant t) x k h = h
    plain-evaluation (tuple_of es) x k h = then-plain (evaluation_of_all d part b c es x) _ (plain-evaluations es x k h) (λ ts y g. g)
    plain-evaluation (list_of es) x k h = then-plain (evaluation_of_all d part b c es x) _ (plain-evaluations es x k h) (λ ts y g. g)
    plain-evaluation (call f es) x k h =
        then-plain (evaluation_of_all d part b c es x) _ (plain-evaluations es x k h) (λ ts y g. or-fault-plain (settle part (apply f ts c.self_pid)) y g)
    plain-evaluation (and_also es) x k h = plain-while-true es x k h
    plain-evaluation (or_else es) x k h = plain-until-true es x k h
    plain-evaluation (perform a es) x k h =
        let both : (can_differ_by a ≡ false) × (one_can_differ es ≡ false) = or_parts (can_differ_by a) (one_can_differ es) k in
        then-plain (evaluation_of_all d part b c es x) _ (plain-evaluations es x both.1 h)
        (λ ts y g. with-effect-plain part (action_done d a ts (context_after c y)) y (plain-action d a ts (context_after c y) both.0) g)

    plain-evaluations : (es : Exprs) (x : List Effect) → one_can_differ es ≡ false → ArePlainEffects x → IsPlainEvaluation (evaluation_of_all d part b c es x)
    plain-evaluations no_exprs x k h = h
    plain-evaluations (and_expr e es) x k h =
        let both : (expression_can_differ e ≡ false) × (one_can_differ es ≡ false) = or_parts (expression_can_differ e) (one_can_differ es) k in
        then-plain (evaluation d part b c e x) _ (plain-evaluation e x both.0 h)
        (λ t y g. then-plain (evaluation_of_all d part b c es y) _ (plain-evaluations es y both.1 g) (λ ts z i. i))

    plain-while-true : (es : Exprs) (x : List Effect) → one_can_differ es ≡ false → ArePlainEffects x → IsPlainEvaluation (evaluation_while_true d part b c es x)
    plain-while-true no_exprs x k h = h
    plain-while-true (and_expr e es) x k h =
        let both : (expression_can_differ e ≡ false) × (one_can_differ es ≡ false) = or_parts (expression_can_differ e) (one_can_differ es) k in
        then-plain (evaluation d part b c e x) _ (plain-evaluation e x both.0 h)
        (λ t y g. either-plain (is_true t) _ _ (plain-while-true es y both.1 g) g)

    plain-until-true : (es : Exprs) (x : List Effect) → one_can_differ es ≡ false → ArePlainEffects x → IsPlainEvaluation (evaluation_until_true d part b c es x)
    plain-until-true no_exprs x k h = h
    plain-until-true (and_expr e es) x k h =
        let both : (expression_can_differ e ≡ false) × (one_can_differ es ≡ false) = or_parts (expression_can_differ e) (one_can_differ es) k in
        then-plain (evaluation d part b c e x) _ (plain-evaluation e x both.0 h)
        (λ t y g. either-plain (is_true t) _ _ g (plain-until-true es y both.1 g))

plain-body : (d : Dialect) (b : Bindings) (c : Context) (es : Exprs) → one_can_differ es ≡ false → ArePlainEffects (effects_of_all d b c es)
plain-body d b c es h = plain-evaluations d in_body b c es [] h tt

-- the effects of the clause that fires
plain-outcome : (d : Dialect) (ks : List Clause) (c : Context) → list_any clause_can_differ ks ≡ false → HasPlainEffects (effects_of_outcome (outcome_in d ks c))
plain-outcome d [] c h = tt
plain-outcome d (k ∷ ks) c h =
    let both : (clause_can_differ k ≡ false) × (list_any clause_can_differ ks ≡ false) = or_parts (clause_can_differ k) (list_any clause_can_differ ks) h in
    go (firing_bindings d k c) (or_parts (one_can_differ k.body) _ both.0).0 (plain-outcome d ks c both.1)
  where
    go : (o : Option Bindings) → one_can_differ k.body ≡ false → HasPlainEffects (effects_of_outcome (outcome_in d ks c))
        → HasPlainEffects (effects_of_outcome (or_next d o c k.body (outcome_in d ks c)))
    go (Some b) body rest = plain-body d b c k.body body
    go None body rest = rest

-- those of a setting
pub plain_effects_of_setting : (g : Setting) (c : Context) → setting_can_differ g ≡ false → HasPlainEffects (evaluated_by g c)
plain_effects_of_setting off c h = tt
plain_effects_of_setting plain c h = tt
plain_effects_of_setting (by s) c h = plain-outcome s.dialect s.clauses c h

-- ---- what such effects leave

-- the flags of all processes
pub flags_same_after : (p : ℕ) (t : FlagTable) (es : List Effect) → ArePlainEffects es → flags_after p t es ≡ t
flags_same_after p t [] h = refl
flags_same_after p t (gives_message u ∷ es) h = flags_same_after p t es h.1
flags_same_after p t (traces_return ∷ es) h = flags_same_after p t es h.1
flags_same_after p t (traces_exception ∷ es) h = flags_same_after p t es h.1
flags_same_after p t (silences b ∷ es) h = absurd (cc h.0)
flags_same_after p t (changes n cleared set ∷ es) h = absurd (cc h.0)

-- ---- what a node does with them

-- a process with such a flag has a flag
pub has_send : (f : Flags) → f send_flag ≡ true → has_none f ≡ false
has_send f h = and_left (not (f send_flag)) _ (ap not h)

pub has_receive : (f : Flags) → f receive_flag ≡ true → has_none f ≡ false
has_receive f h = and_right (not (f send_flag)) _ (and_left (not (f receive_flag)) _ (ap not h))

pub has_call : (f : Flags) → f call_flag ≡ true → has_none f ≡ false
has_call f h = and_right (not (f send_flag)) _ (and_right (not (f receive_flag)) _ (and_left (not (f call_flag)) _ (ap not h)))

-- the last flag isn't lost
loses-none : (p : ℕ) (t : FlagTable) (es : List Effect) → has_none (flags_in t p) ≡ false → ArePlainEffects es → loses_last_flag p t es ≡ false
loses-none p t [] f h = refl
loses-none p t (gives_message u ∷ es) f h = or_from (has_none (flags_in t p)) _ f (loses-none p t es f h.1)
loses-none p t (traces_return ∷ es) f h = or_from (has_none (flags_in t p)) _ f (loses-none p t es f h.1)
loses-none p t (traces_exception ∷ es) f h = or_from (has_none (flags_in t p)) _ f (loses-none p t es f h.1)
loses-none p t (silences b ∷ es) f h = absurd (cc h.0)
loses-none p t (changes n cleared set ∷ es) f h = absurd (cc h.0)

-- none gives a flag
again-none : (p : ℕ) (t : FlagTable) (es : List Effect) → has_none (flags_in t p) ≡ false → ArePlainEffects es → gets_flag_again p t false es ≡ false
again-none p t [] f h = refl
again-none p t (gives_message u ∷ es) f h = ap (λ b. gets_flag_again p t b es) f ∙ again-none p t es f h.1
again-none p t (traces_return ∷ es) f h = ap (λ b. gets_flag_again p t b es) f ∙ again-none p t es f h.1
again-none p t (traces_exception ∷ es) f h = ap (λ b. gets_flag_again p t b es) f ∙ again-none p t es f h.1
again-none p t (silences b ∷ es) f h = absurd (cc h.0)
again-none p t (changes n cleared set ∷ es) f h = absurd (cc h.0)

-- none sets `silent`
silences-none : (p : ℕ) (t : FlagTable) (es : List Effect) → ArePlainEffects es → silences_without_flags p t es ≡ false
silences-none p t [] h = refl
silences-none p t (gives_message u ∷ es) h = silences-none p t es h.1
silences-none p t (traces_return ∷ es) h = silences-none p t es h.1
silences-none p t (traces_exception ∷ es) h = silences-none p t es h.1
silences-none p t (silences b ∷ es) h = absurd (cc h.0)
silences-none p t (changes n cleared set ∷ es) h = absurd (cc h.0)

-- nothing becomes silent
silent-none : (p : ℕ) (b : Bool) (es : List Effect) → ArePlainEffects es → later_silent p b es ≡ b
silent-none p b [] h = refl
silent-none p b (gives_message u ∷ es) h = silent-none p b es h.1
silent-none p b (traces_return ∷ es) h = silent-none p b es h.1
silent-none p b (traces_exception ∷ es) h = silent-none p b es h.1
silent-none p b (silences x ∷ es) h = absurd (cc h.0)
silent-none p b (changes n cleared set ∷ es) h = absurd (cc h.0)

-- where no element passes, none is left
filter-none : {X : Type 0} (f : X → Bool) (xs : List X) → AllByRecursion (λ x. f x ≡ false) xs → filter f xs ≡ []
filter-none f [] h = refl
filter-none f (x ∷ xs) h = ap (λ b. if b then x ∷ filter f xs else filter f xs) h.0 ∙ filter-none f xs h.1

-- in a context whose process has a flag, and isn't silent
module _ (c : Context) (some : has_none (flags_in c.flags c.self_pid) ≡ false) (not_silent : flags_in c.flags c.self_pid silent_flag ≡ false) where
  no-difference-by-body : (d : Dialect) (es : List Effect) → ArePlainEffects es → body_differences d c es ≡ []
  no-difference-by-body d es h =
      let last : loses_last_flag c.self_pid c.flags es ≡ false = loses-none c.self_pid c.flags es some h in
      let silent_after : is_silent_by c es ≡ false = silent-none c.self_pid _ es h ∙ not_silent in
      let ends : body_differs d c es node_ends ≡ false = and_right (is_of_sends d) _ (and_left (loses_last_flag c.self_pid c.flags es) _ last) in
      let freed : body_differs d c es reads_freed ≡ false = and_right (is_of_calls d) _ (and_left (gets_flag_again c.self_pid c.flags false es) _ (again-none c.self_pid c.flags es some h)) in
      let of_message : body_differs d c es suppresses_message ≡ false = and_right (not (is_of_calls d)) _ (and_left (is_silent_by c es) _ silent_after) in
      let of_mark : body_differs d c es leaves_no_mark ≡ false = and_right (is_of_calls d) _ (and_left (is_silent_by c es) _ silent_after) in
      let of_silent : body_differs d c es ignores_silent ≡ false = and_right (is_of_calls d) _ (silences-none c.self_pid c.flags es h) in
      filter-none (body_differs d c es) (node_ends ∷ reads_freed ∷ suppresses_message ∷ leaves_no_mark ∷ ignores_silent ∷ []) (ends, (freed, (of_message, (of_mark, (of_silent, tt)))))

  no-difference-by-clause : (d : Dialect) (k : Clause) (b : Bindings) (es : List Effect) → one_shows_order k.body ≡ false → clause_has_logic_on_other d k b c ≡ false → has_list_of_none k ≡ false → ArePlainEffects es → clause_differences d k b c es ≡ []
  no-difference-by-clause d k b es o l n h =
      ap₂ (λ a b. a ++ b) (ap (λ b. option_to_list (difference_where b evaluates_from_right)) o)
      (ap₂ (λ a b. a ++ b) (ap (λ b. option_to_list (difference_where b faults_in_logic)) l)
      (ap₂ (λ a b. a ++ b) (ap (λ b. option_to_list (difference_where b reads_no_list)) (and_right (is_of_calls d) _ n)) (no-difference-by-body d es h)))

  no-difference-by-clauses : (d : Dialect) (ks : List Clause) → list_any clause_can_differ ks ≡ false → firing_differences d ks c ≡ []
  no-difference-by-clauses d [] h = refl
  no-difference-by-clauses d (k ∷ ks) h =
      let both : (clause_can_differ k ≡ false) × (list_any clause_can_differ ks ≡ false) = or_parts (clause_can_differ k) (list_any clause_can_differ ks) h in
      let parts : (one_can_differ k.body ≡ false) × _ = or_parts (one_can_differ k.body) _ both.0 in
      let order : (one_shows_order k.body ≡ false) × _ = or_parts (one_shows_order k.body) _ parts.1 in
      let logic : (one_calls_logic k.conditions ≡ false) × _ = or_parts (one_calls_logic k.conditions) _ order.1 in
      let none : (one_calls_logic k.body ≡ false) × (has_list_of_none k ≡ false) = or_parts (one_calls_logic k.body) (has_list_of_none k) logic.1 in
      go (reason_of d k c) parts.0 order.0 (λ b. no_logic_in_clause d k b c logic.0 none.0) none.1 (no-difference-by-clauses d ks both.1)
    where
      go : (o : Option Reason) → one_can_differ k.body ≡ false → one_shows_order k.body ≡ false → ((b : Bindings) → clause_has_logic_on_other d k b c ≡ false) → has_list_of_none k ≡ false → firing_differences d ks c ≡ []
          → differences_by d k c (verdict_by d k c o) (firing_differences d ks c) ≡ []
      go (Some r) body order logic none rest = rest
      go None body order logic none rest = no-difference-by-clause d k _ _ order (logic _) none (plain-body d _ c k.body body)

  pub no_difference_by_setting : (g : Setting) → setting_can_differ g ≡ false → setting_differences g c ≡ []
  no_difference_by_setting off h = refl
  no_difference_by_setting plain h = refl
  no_difference_by_setting (by s) h = no-difference-by-clauses s.dialect s.clauses h

-- ---- the setting of a call

-- no function command has a setting by which a node can differ
abbrev pub FunctionsArePlain : List FunctionSetting → Type 0
FunctionsArePlain ks = AllByRecursion (λ k. setting_can_differ k.setting ≡ false) ks

-- nor has the newest that covers the function of a call
pub plain_setting_for : (ks : List FunctionSetting) (c : Call) → FunctionsArePlain ks → setting_can_differ (setting_for ks c) ≡ false
plain_setting_for [] c h = refl
plain_setting_for (k ∷ ks) c h = go (has_among k c.mfa c.exported) (k.local || c.named) (plain_setting_for ks c h.1)
  where
    go : (a b : Bool) → setting_can_differ (setting_for ks c) ≡ false → setting_can_differ (if a then (if b then k.setting else off) else setting_for ks c) ≡ false
    go true true rest = h.0
    go true false rest = refl
    go false b rest = rest
