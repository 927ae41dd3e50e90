-- Logic on what is no boolean, one expression after another, and the effects of what is evaluated meanwhile.
use Rattle.std.proofs.Common.{◌≡◌, ◌∙◌, Bool, true, false, not, ◌&&◌, ◌||◌, List, ◌∷◌, ◌++◌, length, take, map, Option, Some, None, refl, sym, ap, append_assoc, if◌then◌else◌}
use Rattle.std.specs.Bool.{beq}
use Rattle.std.specs.Option.{option_map}
use Rattle.std.specs.List.{take-map}
use Rattle.std.proofs.Math.Seq.{take-append_seam}
use Rattle.std.proofs.lemmas.List.{length-map}
use Rattle.std.specs.declared.alloc.Allocator.{Ghosts}
use Rattle.std.specs.declared.vec.Vec.{Vec}
use Rattle.def_term.specs.Tree.{Tree}
use Rattle.def_spec.specs.Functions.{boolean_test, is_true}
use Rattle.def_spec.specs.Expressions.{Expr, Exprs, and_expr, Effect, Evaluation, comes_to, faults, then_on, or_fault, its_effects}
use Rattle.def_spec.proofs.Values.{effects_stand_after}
use Rattle.def_explain.specs.Logic.{on_value, one_is_no_boolean}
use Rattle.tn_guard.specs.Views.{value_seen}
use Rattle.tn_guard.specs.declared.value.Value.{Value}
use Rattle.tn_head.specs.Views.{bindings_seen}
use Rattle.tn_spec.specs.Views.{dialect_of}
use Rattle.tn_action.specs.Parts.{eval_position_seen}
use Rattle.tn_action.specs.EvalContexts.{evaluation_in, all_in}
use Rattle.tn_action.specs.Steps.{effect_list_seen}
use Rattle.tn_action.specs.Views.{context_seen, effect_seen}
use Rattle.tn_action.specs.declared.effect.Effect as done
use Rattle.tn_action.specs.declared.eval_context.EvalContext.{EvalContext}
use Rattle.tn_difference.specs.Logic.{HasMoreEffects, HasSameEffects, logic_in, logic_in_one, logic_in_turn}

-- what is after a value that is true or isn't
abbrev pub further : Bool → Bool → Bool → Bool
further q holds more = if holds then (q && more) else (not q && more)

further-same : (q holds more : Bool) → holds ≡ q → further q holds more ≡ more
further-same true true more h = refl
further-same true false more h = absurd (cc h)
further-same false true more h = absurd (cc h)
further-same false false more h = refl

further-other : (q holds more : Bool) → not (beq holds q) ≡ true → further q holds more ≡ false
further-other true true more h = absurd (cc h)
further-other true false more h = refl
further-other false true more h = refl
further-other false false more h = absurd (cc h)

-- two are the same where they don't differ
pub same_by : (a b : Bool) → not (beq a b) ≡ false → a ≡ b
same_by true true h = refl
same_by true false h = absurd (cc h)
same_by false true h = absurd (cc h)
same_by false false h = refl

-- ---- effects

pub more_on : {A : Type 0} (x y z : Vec (done.Effect A) A) → HasMoreEffects x y → HasMoreEffects y z → HasMoreEffects x z
more_on x y z h k = (h.0 ++ k.0, k.1 ∙ ap (λ l. l ++ k.0) h.1 ∙ append_assoc (effect_list_seen x) h.0 k.0)

pub same_on : {A : Type 0} (x y z : Vec (done.Effect A) A) → HasMoreEffects x y → HasSameEffects y z → HasMoreEffects x z
same_on x y z h k = (h.0, k ∙ h.1)

-- those after the first so many are given up
pub same_again : {A : Type 0} (x y z : Vec (done.Effect A) A) → HasMoreEffects x y → z.items ≡ take (length x.items) y.items → HasSameEffects x z
same_again x y z h k =
    ap (λ es. map effect_seen es) k
    ∙ sym (take-map effect_seen (length x.items) y.items)
    ∙ ap (λ es. take (length x.items) es) h.1
    ∙ ap (λ n. take n (effect_list_seen x ++ h.0)) (sym (length-map x.items effect_seen))
    ∙ take-append_seam (effect_list_seen x) h.0

with-fault : {X : Type 0} (o : Option X) (y : List Effect) → its_effects (or_fault o y) ≡ y
with-fault None y = refl
with-fault (Some t) y = refl

module _ {A : Type 0} {G : Ghosts A} (s : EvalContext A G) where
  -- those of what is evaluated come after those before it
  pub evaluated_on : (e : Expr) (v : Option (Value A)) (x y : Vec (done.Effect A) A) → or_fault (option_map value_seen v) (effect_list_seen y) ≡ evaluation_in s e (effect_list_seen x) → HasMoreEffects x y
  evaluated_on e v x y h =
      let own : (es : List Effect) × (its_effects (evaluation_in s e (effect_list_seen x)) ≡ effect_list_seen x ++ es) =
      effects_stand_after (dialect_of s.dialect) (eval_position_seen s.part) (bindings_seen s.bindings.now) (context_seen s.context.now) e (effect_list_seen x) in
      (own.0, sym (with-fault (option_map value_seen v) (effect_list_seen y)) ∙ ap its_effects h ∙ own.1)

  -- ---- values

  -- what holds of several values holds of those after the first
  of-others : (f : Bool) (t : Tree) (r : Evaluation (List Tree)) → on_value (then_on r (λ ts z. comes_to (t ∷ ts) z)) (λ ts y. f || one_is_no_boolean ts) ≡ on_value r (λ ts y. (f || not (boolean_test t)) || one_is_no_boolean ts)
  of-others true t (comes_to ts z) = refl
  of-others false t (comes_to ts z) = refl
  of-others f t (faults z) = refl

  module _ (all : Exprs) (e : Expr) (es : Exprs) (old : List Effect) (here : all ≡ and_expr e es) where
    pub values_go_on : (f : Bool) (t : Tree) (new : List Effect) (whole : Bool) → comes_to t new ≡ evaluation_in s e old → on_value (all_in s all old) (λ ts y. f || one_is_no_boolean ts) ≡ whole
        → on_value (all_in s es new) (λ ts y. (f || not (boolean_test t)) || one_is_no_boolean ts) ≡ whole
    values_go_on f t new whole is h =
        sym (of-others f t (all_in s es new))
        ∙ ap (λ r. on_value (then_on r (λ u y. then_on (all_in s es y) (λ ts z. comes_to (u ∷ ts) z))) (λ ts y. f || one_is_no_boolean ts)) is
        ∙ ap (λ xs. on_value (all_in s xs old) (λ ts y. f || one_is_no_boolean ts)) (sym here)
        ∙ h

    -- ---- one of several

    pub one_goes_on : (t : Tree) (new : List Effect) (whole : Bool) → logic_in s e old ≡ false → comes_to t new ≡ evaluation_in s e old → logic_in_one s all old ≡ whole → logic_in_one s es new ≡ whole
    one_goes_on t new whole none is h =
        sym (ap (λ xs. logic_in_one s xs old) here ∙ ap (λ q. q || on_value (evaluation_in s e old) (λ t y. logic_in_one s es y)) none ∙ ap (λ r. on_value r (λ t y. logic_in_one s es y)) (sym is)) ∙ h

    -- ---- in turn

    -- what is found of a value, and of those after it
    abbrev at : Bool → Tree → List Effect → Bool
    at q t y = not (boolean_test t) || further q (is_true t) (logic_in_turn s q es y)

    here-turn : (q : Bool) (r : Evaluation Tree) (whole : Bool) → logic_in s e old ≡ false → r ≡ evaluation_in s e old → logic_in_turn s q all old ≡ whole → on_value r (at q) ≡ whole
    here-turn q r whole none is h =
        sym (ap (λ xs. logic_in_turn s q xs old) here ∙ ap (λ b. b || on_value (evaluation_in s e old) (at q)) none ∙ ap (λ p. on_value p (at q)) (sym is)) ∙ h

    pub turn_faults : (q : Bool) (new : List Effect) (whole : Bool) → logic_in s e old ≡ false → faults new ≡ evaluation_in s e old → logic_in_turn s q all old ≡ whole → false ≡ whole
    turn_faults q new whole none is h = here-turn q (faults new) whole none is h

    -- the value is a boolean
    boolean-turn : (q : Bool) (t : Tree) (new : List Effect) (whole : Bool) → logic_in s e old ≡ false → comes_to t new ≡ evaluation_in s e old → boolean_test t ≡ true → logic_in_turn s q all old ≡ whole → further q (is_true t) (logic_in_turn s q es new) ≡ whole
    boolean-turn q t new whole none is boolean h = sym (ap (λ b. not b || further q (is_true t) (logic_in_turn s q es new)) boolean) ∙ here-turn q (comes_to t new) whole none is h

    pub turn_goes_on : (q : Bool) (t : Tree) (new : List Effect) (whole : Bool) → logic_in s e old ≡ false → comes_to t new ≡ evaluation_in s e old → boolean_test t ≡ true → is_true t ≡ q → logic_in_turn s q all old ≡ whole → logic_in_turn s q es new ≡ whole
    turn_goes_on q t new whole none is boolean holds h = sym (further-same q (is_true t) (logic_in_turn s q es new) holds) ∙ boolean-turn q t new whole none is boolean h

    -- or it ends the turn
    pub turn_stops : (q : Bool) (t : Tree) (new : List Effect) (whole : Bool) → logic_in s e old ≡ false → comes_to t new ≡ evaluation_in s e old → boolean_test t ≡ true → not (beq (is_true t) q) ≡ true → logic_in_turn s q all old ≡ whole → false ≡ whole
    turn_stops q t new whole none is boolean stops h = sym (further-other q (is_true t) (logic_in_turn s q es new) stops) ∙ boolean-turn q t new whole none is boolean h
