-- Whether a clause that fires, and a setting, leave open what a session reports.
use Rattle.std.proofs.Common.{◌≡◌, ◌∙◌, ℕ, ◌+◌, ◌<◌, ◌≤◌, Bool, true, false, ◌||◌, if◌then◌else◌, List, [], ◌∷◌, ◌++◌, option_to_list, length, get_or, drop, map, refl, sym, ap}
use Rattle.std.proofs.lemmas.List.{drop_more, drop_all}
use Rattle.std.specs.List.{list_any}
use Rattle.def_spec.specs.Expressions.{Dialect, Context, Effect}
use Rattle.def_spec.specs.Matching.{Bindings}
use Rattle.def_explain.specs.Reasons.{Reason}
use Rattle.def_explain.specs.Verdicts.{fails, fires, verdict_of}
use Rattle.def_explain.specs.Logic.{clause_has_logic_on_other}
use Rattle.def_explain.specs.Differences.{Difference, node_ends, reads_freed, suppresses_message, leaves_no_mark, ignores_silent, evaluates_from_right, faults_in_logic, reads_no_list, one_shows_order, list_differs, difference_where, body_differs, body_differences, clause_differences, differences_by, firing_differences, differences_if}
use Rattle.def_running_node.specs.NodeRuns.{is_open_difference}
use Rattle.tn_head.specs.Views.{bindings_seen}
use Rattle.tn_head.specs.declared.bindings.Bindings as code
use Rattle.tn_spec.specs.Views.{dialect_of, clause_seen}
use Rattle.tn_spec.specs.declared.func.Dialect as func
use Rattle.tn_spec.specs.declared.spec.Clause.{Clause}
use Rattle.tn_action.specs.Views.{context_seen, effect_seen}
use Rattle.tn_action.specs.declared.context.Context as action
use Rattle.tn_action.specs.declared.effect.Effect as action_effect
use Rattle.tn_running_node.specs.ClauseDifferences.{AreOfClause, opens_with}
use Rattle.tn_running_node.specs.declared.clause.ClauseDifferences.{ClauseDifferences}

abbrev open-among : List Difference → Bool
open-among xs = list_any is_open_difference xs

-- ---- a clause that fires

open-where : (b : Bool) (x : Difference) (xs : List Difference) → is_open_difference x ≡ true → open-among (if b then x ∷ xs else xs) ≡ (b || open-among xs)
open-where true x xs h = ap (λ q. q || open-among xs) h
open-where false x xs h = refl

other-where : (b : Bool) (x : Difference) (xs : List Difference) → is_open_difference x ≡ false → open-among (if b then x ∷ xs else xs) ≡ open-among xs
other-where true x xs h = ap (λ q. q || open-among xs) h
other-where false x xs h = refl

first-where : (q : Bool) (x : Difference) (xs : List Difference) → is_open_difference x ≡ true → open-among (option_to_list (difference_where q x) ++ xs) ≡ (q || open-among xs)
first-where true x xs h = ap (λ b. b || open-among xs) h
first-where false x xs h = refl

-- one of three by the effects
pub one_of_three : (d : Dialect) (c : Context) (es : List Effect) → list_any is_open_difference (body_differences d c es)
    ≡ (body_differs d c es node_ends || (body_differs d c es reads_freed || (body_differs d c es ignores_silent || false)))
one_of_three d c es =
    let f : Difference → Bool = body_differs d c es in
    open-where (f node_ends) node_ends _ refl
    ∙ ap (λ b. f node_ends || b) (open-where (f reads_freed) reads_freed _ refl
    ∙ ap (λ b. f reads_freed || b) (other-where (f suppresses_message) suppresses_message _ refl
    ∙ other-where (f leaves_no_mark) leaves_no_mark _ refl
    ∙ open-where (f ignores_silent) ignores_silent [] refl))

-- that of the order, of logic or of the list of no elements, or one of these
pub one_of_clause : {A B : Type 0} (d : func.Dialect) (k : Clause A) (b : code.Bindings A B) (c : action.Context A) (es : List (action_effect.Effect A)) (these : ClauseDifferences) → AreOfClause d k b c these
    → opens_with these d c es ≡ list_any is_open_difference (clause_differences (dialect_of d) (clause_seen k) (bindings_seen b) (context_seen c) (map effect_seen es))
one_of_clause d k b c es these h =
    let by_effects : List Difference = body_differences (dialect_of d) (context_seen c) (map effect_seen es) in
    let o : Bool = one_shows_order (clause_seen k).body in
    let l : Bool = clause_has_logic_on_other (dialect_of d) (clause_seen k) (bindings_seen b) (context_seen c) in
    let n : Bool = list_differs (dialect_of d) (clause_seen k) in
    let after_list : List Difference = option_to_list (difference_where n reads_no_list) ++ by_effects in
    ap (λ q. q || (these.logic || (these.list || open-among by_effects))) h.order
    ∙ ap (λ q. o || (q || (these.list || open-among by_effects))) h.logic
    ∙ ap (λ q. o || (l || (q || open-among by_effects))) h.list
    ∙ ap (λ q. o || (l || q)) (sym (first-where n reads_no_list by_effects refl))
    ∙ ap (λ q. o || q) (sym (first-where l faults_in_logic after_list refl))
    ∙ sym (first-where o evaluates_from_right (option_to_list (difference_where l faults_in_logic) ++ after_list) refl)

-- ---- clauses, one after another

module _ {A : Type 0} (d : Dialect) (c : Context) (ks : List (Clause A)) where
  -- of the clauses after so many
  abbrev pub differences_from : ℕ → List Difference
  differences_from i = firing_differences d (map clause_seen (drop i ks)) c

  module _ (i : ℕ) (so_far : differences_from i ≡ differences_from 0) where
    differences_here : (k : Clause A) → i < length ks → k ≡ get_or ks i k → differences_from i ≡ differences_by d (clause_seen k) c (verdict_of d (clause_seen k) c) (differences_from (i + 1))
    differences_here k below is =
        ap (λ js. firing_differences d (map clause_seen js) c) (drop_more ks i k below)
        ∙ ap (λ j. differences_by d (clause_seen j) c (verdict_of d (clause_seen j) c) (differences_from (i + 1))) (sym is)

    -- one that doesn't fire
    pub goes_by : (k : Clause A) (r : Reason) → i < length ks → k ≡ get_or ks i k → fails r ≡ verdict_of d (clause_seen k) c → differences_from (i + 1) ≡ differences_from 0
    goes_by k r below is of = ap (λ v. differences_by d (clause_seen k) c v (differences_from (i + 1))) of ∙ sym (differences_here k below is) ∙ so_far

    -- the one that fires
    pub fires_here : (k : Clause A) (b : Bindings) (es : List Effect) → i < length ks → k ≡ get_or ks i k → fires b es ≡ verdict_of d (clause_seen k) c
        → list_any is_open_difference (clause_differences d (clause_seen k) b c es) ≡ list_any is_open_difference (differences_from 0)
    fires_here k b es below is of = ap open-among (ap (λ v. differences_by d (clause_seen k) c v (differences_from (i + 1))) of ∙ sym (differences_here k below is) ∙ so_far)

    -- none of them
    pub none_fires_here : length ks ≤ i → false ≡ list_any is_open_difference (differences_from 0)
    none_fires_here past = ap open-among (ap (λ js. firing_differences d (map clause_seen js) c) (sym (drop_all i ks past)) ∙ so_far)

-- ---- flags

pub without_flag : (b : Bool) (xs : List Difference) → b ≡ false → false ≡ list_any is_open_difference (differences_if b xs)
without_flag b xs h = sym (ap (λ q. open-among (differences_if q xs)) h)

pub with_flag : (b r : Bool) (xs ys : List Difference) → b ≡ true → xs ≡ ys → r ≡ list_any is_open_difference xs → r ≡ list_any is_open_difference (differences_if b ys)
with_flag b r xs ys h same is = is ∙ ap open-among same ∙ sym (ap (λ q. open-among (differences_if q ys)) h)
