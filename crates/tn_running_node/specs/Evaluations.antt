-- Whether the evaluation of an event leaves open what a session reports, by the parts of the event that the code has.
use Rattle.std.specs.Prelude.{◌≡◌, Bool, List, map}
use Rattle.std.specs.List.{list_any}
use Rattle.std.specs.Option.{option_map}
use Rattle.def_spec.specs.Expressions.{Context}
use Rattle.def_session.specs.Settings.{Setting}
use Rattle.def_session.specs.State.{Session}
use Rattle.def_session.specs.Session.{context}
use Rattle.def_explain.specs.Differences.{setting_differences}
use Rattle.def_running_node.specs.NodeRuns.{is_open_difference}
use Rattle.tn_term.specs.Views.{mfa_seen}
use Rattle.tn_guard.specs.Views.{value_seen}
use Rattle.tn_guard.specs.declared.value.Value.{Value}
use Rattle.tn_action.specs.Views.{context_seen}
use Rattle.tn_action.specs.declared.context.Context as action
use Rattle.tn_session.specs.Looks.{look_seen}
use Rattle.tn_session.specs.declared.look.Look.{Look}
use Rattle.tn_running_node.specs.declared.actor.Actor.{Actor}

-- what a specification is evaluated in, for this process and on these values
abbrev pub context_on_values : {A : Type 0} → Session → Actor A → List (Value A) → Context
context_on_values s actor vs = context s actor.pid (map value_seen vs) (option_map (λ m. mfa_seen m.now) actor.caller)

-- as this setting is evaluated
abbrev pub OpensBy : {A : Type 0} → Setting → action.Context A → Bool → Type 0
OpensBy g c b = b ≡ list_any is_open_difference (setting_differences g (context_seen c))

-- as it is evaluated on these values of a process
abbrev pub OpensOn : {A : Type 0} → Setting → Look A → Actor A → List (Value A) → Bool → Type 0
OpensOn g look actor vs b = b ≡ list_any is_open_difference (setting_differences g (context_on_values (look_seen look) actor vs))
