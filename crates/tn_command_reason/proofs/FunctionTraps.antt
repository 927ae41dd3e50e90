-- The arities of the functions that a command about these matches, one function after another, and the trap of a function command.
use Rattle.std.proofs.Common.{◌≡◌, ◌∙◌, ℕ, ◌+◌, ◌<◌, ◌≤◌, Bool, true, false, if◌then◌else◌, List, [], ◌∷◌, ◌++◌, map, length, drop, get_or, Option, Some, sym, ap, ap₂, append_assoc, append-nil}
use Rattle.std.specs.List.{filter}
use Rattle.std.proofs.lemmas.List.{drop_more, drop_all, length-map}
use Rattle.def_term.specs.Tree.{Tree}
use Rattle.def_spec.specs.Expressions.{for_calls}
use Rattle.def_script.specs.Program.{mfa_of}
use Rattle.def_script.specs.Exports.{visible}
use Rattle.def_session.specs.Commands.{matching_count}
use Rattle.def_session.specs.Settings.{FunctionSetting, has_among, trace_pattern_of, options_of}
use Rattle.def_explain.specs.CommandReasons.{CommandReason, any_setting, matching_arities, spec_trap, function_trap}
use Rattle.tn_index.specs.Views.{function_pattern_seen}
use Rattle.tn_index.specs.declared.function_setting.FunctionPattern.{FunctionPattern}
use Rattle.tn_script.specs.Views.{function_of, functions_of}
use Rattle.tn_script.specs.declared.form.Function.{Function}
use Rattle.tn_command_reason.specs.FunctionTraps.{arities_from, AreMatchingArities, HasFunctionTrap}

module _ {A : Type 0} (k : FunctionSetting) (fs : List (Function A)) (i : ℕ) (x : Function A) (below : i < length fs) (is : x ≡ get_or fs i x) where
  at_place : arities_from k fs i ≡ map (λ f. f.0.arity) (if has_among k (mfa_of (function_of x)) (function_of x).exported
      then (mfa_of (function_of x), (function_of x).exported) ∷ filter (λ f. has_among k f.0 f.1) (visible (functions_of (drop (i + 1) fs)))
      else filter (λ f. has_among k f.0 f.1) (visible (functions_of (drop (i + 1) fs))))
  at_place = ap (λ ys. map (λ f. f.0.arity) (filter (λ f. has_among k f.0 f.1) (visible (functions_of ys)))) (drop_more fs i x below ∙ ap (λ y. y ∷ drop (i + 1) fs) (sym is))

  by_test : (b : Bool) → b ≡ has_among k (mfa_of (function_of x)) (function_of x).exported
      → arities_from k fs i ≡ map (λ f. f.0.arity) (if b
      then (mfa_of (function_of x), (function_of x).exported) ∷ filter (λ f. has_among k f.0 f.1) (visible (functions_of (drop (i + 1) fs)))
      else filter (λ f. has_among k f.0 f.1) (visible (functions_of (drop (i + 1) fs))))
  by_test b e =
      at_place
      ∙ ap (λ c. map (λ f. f.0.arity) (if c
      then (mfa_of (function_of x), (function_of x).exported) ∷ filter (λ f. has_among k f.0 f.1) (visible (functions_of (drop (i + 1) fs)))
      else filter (λ f. has_among k f.0 f.1) (visible (functions_of (drop (i + 1) fs))))) (sym e)

  -- one that matches was appended
  pub one_more : (before after whole : List ℕ) (arity : ℕ) → true ≡ has_among k (mfa_of (function_of x)) (function_of x).exported → after ≡ before ++ arity ∷ [] → arity ≡ (mfa_of (function_of x)).arity
      → before ++ arities_from k fs i ≡ whole → after ++ arities_from k fs (i + 1) ≡ whole
  one_more before after whole arity e added counted left =
      ap (λ l. l ++ arities_from k fs (i + 1)) added
      ∙ append_assoc before (arity ∷ []) (arities_from k fs (i + 1))
      ∙ ap (λ n. before ++ n ∷ arities_from k fs (i + 1)) counted
      ∙ ap (λ l. before ++ l) (sym (by_test true e))
      ∙ left

  -- another is where_false
  pub one_less : (before whole : List ℕ) → false ≡ has_among k (mfa_of (function_of x)) (function_of x).exported
      → before ++ arities_from k fs i ≡ whole → before ++ arities_from k fs (i + 1) ≡ whole
  one_less before whole e left = ap (λ l. before ++ l) (sym (by_test false e)) ∙ left

pub none_more : {A : Type 0} (k : FunctionSetting) (fs : List (Function A)) (i : ℕ) (before whole : List ℕ) → length fs ≤ i → before ++ arities_from k fs i ≡ whole → before ≡ whole
none_more k fs i before whole past left =
    sym (append-nil before) ∙ ap (λ ys. before ++ map (λ f. f.0.arity) (filter (λ f. has_among k f.0 f.1) (visible (functions_of ys)))) (sym (drop_all i fs past)) ∙ left

-- that of a function command whose MFA and Opts are read
pub function_has : {A : Type 0} (fs : List (Function A)) (mfa spec options : Tree) (covered : FunctionPattern A) (local : Bool) (count : ℕ) (lengths : List ℕ) (r : Option CommandReason)
    → Some (function_pattern_seen covered) ≡ trace_pattern_of mfa → Some local ≡ options_of options
    → AreMatchingArities fs covered local lengths → count ≡ length lengths → r ≡ spec_trap count for_calls lengths spec
    → HasFunctionTrap fs mfa spec options r
function_has fs mfa spec options covered local count lengths r pattern kind are counted is = λ o h.
    let k = any_setting (function_pattern_seen covered) local in
    let same : lengths ≡ matching_arities o (function_pattern_seen covered) local = are o h in
    let number : count ≡ matching_count o k = counted ∙ ap length same ∙ length-map (filter (λ f. has_among k f.0 f.1) o.functions) (λ f. f.0.arity) in
    is ∙ ap₂ (λ n ns. spec_trap n for_calls ns spec) number same ∙ ap₂ (function_trap o spec) pattern kind
