-- What the code's node stands for, and a step of it.
use Rattle.std.specs.Prelude.{ℕ, Bool, true, false, List, length, map, Option, Some, None, refl}
use Rattle.std.specs.Option.{option_map}
use Rattle.std.specs.Coded.{Coded, code_by, coded_ℕ, coded_list, coded×}
use Rattle.def_script.specs.Program.{Function, Program}
use Rattle.def_node.specs.Event.{Event}
use Rattle.def_node.specs.Node as node
use Rattle.def_node.specs.Process.{Process}
use Rattle.tn_flags.specs.Views.{event_of}
use Rattle.tn_process.specs.Functions.{functions_in}
use Rattle.tn_node.specs.Codes.{function_code, state_code}
use Rattle.tn_node.specs.Worlds.{world_of}
use Rattle.tn_node.specs.declared.step_outcome.Moved as code
use Rattle.tn_node.specs.declared.step_outcome.Moved.{Moved}
use Rattle.tn_node.specs.declared.node.State.{State}

-- a node that was not refused memory: the functions of its program, the number of its commands, and its state
pub record NodeValue : Type 0 where
  pub functions : List Function
  pub commands : ℕ
  pub state : node.NodeState

-- it is stored as the tuple of its fields
abbrev pub node_code : Coded NodeValue
node_code =
    code_by (List Function × (ℕ × node.NodeState)) (coded× (coded_list function_code) (coded× coded_ℕ state_code)) (λ n. (n.functions, (n.commands, n.state)))
    (λ p. record { functions = p.0; commands = p.1.0; state = p.1.1 }) (λ _. refl)

-- a node of the program, in this state
abbrev pub node_at : Program → node.NodeState → NodeValue
node_at p s = record { functions = p.functions; commands = length p.commands; state = s }

-- a node that is spent has no value
abbrev pub seen_unless : Bool → NodeValue → Option NodeValue
seen_unless true n = None
seen_unless false n = Some n

-- what a step of a node answers: events, the number of the next command (from 1), or nothing
pub data PickAnswer : Type 0 where
  answers_events : List Event → PickAnswer
  answers_command : ℕ → PickAnswer
  answers_nothing : PickAnswer

-- the node after a pick, beside what the pick answers
abbrev pub next_node : NodeValue → node.PickResult → Option NodeValue × PickAnswer
next_node n (node.gives_events s es) = (Some (record n { state = s }), answers_events es)
next_node n (node.gives_command s k) = (Some (record n { state = s }), answers_command k)
next_node n (node.gives_nothing s) = (Some (record n { state = s }), answers_nothing)

-- what the code's answer stands for
abbrev pub moved_seen : {A : Type 0} → Moved A → PickAnswer
moved_seen (code.TheVariants.Moved es) = answers_events (map event_of es.items)
moved_seen (code.TheVariants.Control n) = answers_command n
moved_seen code.TheVariants.Idle = answers_nothing

-- what the code's state stands for
abbrev pub node_seen : {A : Type 0} → State A → NodeValue
node_seen c = record {
  functions = functions_in c.functions;
  commands = c.commands;
  state = record { world = world_of c.world; taken = c.taken };
}

-- the state of a node; none where it is spent
abbrev pub state_in : Option NodeValue → Option node.NodeState
state_in n = option_map (λ v. v.state) n

-- the processes of a node by their places; none where it is spent
abbrev pub slots_in : Option NodeValue → Option (List (Option Process))
slots_in n = option_map (λ v. v.state.world.slots) n

-- how many commands it took; none where it is spent
abbrev pub taken_in : Option NodeValue → Option ℕ
taken_in n = option_map (λ v. v.state.taken) n
