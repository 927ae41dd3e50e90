-- What the code's contexts, effects and outcomes stand for.
use Rattle.std.specs.Prelude.{List, [], ◌∷◌, map, Option, Some, None}
use Rattle.std.specs.Option.{option_map}
use Rattle.def_term.specs.Tree.{Tree}
use Rattle.def_spec.specs.Expressions as ex
use Rattle.def_spec.specs.Outcome as definition
use Rattle.tn_term.specs.Views.{mfa_seen, alive_of}
use Rattle.tn_flags.specs.Views.{flags_of, table_of}
use Rattle.tn_guard.specs.Views.{value_seen, parts_list}
use Rattle.tn_action.specs.declared.context.Context.{Context}
use Rattle.tn_action.specs.declared.effect.Effect.{Effect}
use Rattle.tn_action.specs.declared.effect.Effect.TheVariants.{Message, ReturnTrace, ExceptionTrace, Silent, Change}
use Rattle.tn_action.specs.declared.effect.Outcome.{Outcome}
use Rattle.tn_action.specs.declared.effect.Outcome.TheVariants.{NoMatch, Matched}
use Rattle.tn_action.specs.declared.actions.ActionResult.{ActionResult}

abbrev pub context_seen : {A : Type 0} → Context A → ex.Context
context_seen c = record { matched_list = parts_list c.list; self_pid = c.self_pid; caller_mfa = option_map (λ m. mfa_seen m.now) c.caller; alive = alive_of c.alive.now; flags = table_of c.flags.now }

abbrev pub effect_seen : {A : Type 0} → Effect A → ex.Effect
effect_seen (Message v) = ex.gives_message (value_seen v)
effect_seen ReturnTrace = ex.traces_return
effect_seen ExceptionTrace = ex.traces_exception
effect_seen (Silent b) = ex.silences b
effect_seen (Change pid off on) = ex.changes pid (flags_of off) (flags_of on)

-- an effect, where there is one
abbrev pub effect_list : {A : Type 0} → Option (Effect A) → List ex.Effect
effect_list None = []
effect_list (Some e) = effect_seen e ∷ []

-- the value of an action, with its effect
abbrev pub result_seen : {A : Type 0} → ActionResult A → Tree × List ex.Effect
result_seen a = (value_seen a.value, effect_list a.effect)

abbrev pub outcome_seen : {A : Type 0} → Outcome A → definition.Outcome
outcome_seen NoMatch = definition.no_match
outcome_seen (Matched v) = definition.matched (map effect_seen v.items)
