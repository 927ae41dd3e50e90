-- Where a node is in a run, and which picks move it and show nothing.
-- Depends on runs and nodes, and on moves that change one process alone.
use Rattle.std.specs.Prelude.{◌≡◌, ◌<◌, ℕ, Bool, true, false, List, [], ◌∷◌, length, Option, Some}
use Rattle.def_script.specs.Program.{Program}
use Rattle.def_run.specs.Run.{JOURNAL, moves, run_state_of}
use Rattle.def_run.specs.Laws.{state_at}
use Rattle.def_independence.specs.Alone.{are_own_steps}
use Rattle.std.specs.Option.{IsSomeAnd}
use Rattle.def_node.specs.Node.{pick_result}
use Rattle.tn_node.specs.Nodes.{NodeValue, PickAnswer, answers_events, answers_command, answers_nothing, next_node, node_at}

-- the node is where these picks lead in a run of the program, whose journal has room
pub record IsNodeAfter (p : Program) (picks : List ℕ) (node : Option NodeValue) : Type 0 where
  pub at : node ≡ Some (node_at p (state_at p (run_state_of p picks)))
  pub room : length (moves p picks) < JOURNAL

-- a process moved, and its step has no event
abbrev pub has_no_event : PickAnswer → Bool
has_no_event (answers_events []) = true
has_no_event (answers_events (e ∷ es)) = false
has_no_event (answers_command n) = false
has_no_event answers_nothing = false

-- a process moved, and its step has calls, returns and exceptions alone
abbrev pub has_own_steps : PickAnswer → Bool
has_own_steps (answers_events es) = are_own_steps es
has_own_steps (answers_command n) = false
has_own_steps answers_nothing = false

-- the node gives this answer to the pick
pub record AnswersPick (pick : ℕ) (node : Option NodeValue) (a : PickAnswer) : Type 0 where
  pub after : Option NodeValue
  pub gives : IsSomeAnd node (λ n. next_node n (pick_result n.functions n.commands n.state pick) ≡ (after, a))
