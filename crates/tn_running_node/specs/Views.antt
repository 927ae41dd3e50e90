-- What the code's node stands for.
use Rattle.std.specs.Prelude.{ℕ, Bool, List, map}
use Rattle.std.specs.Option.{option_map}
use Rattle.std.specs.declared.vec.Vec.{Vec}
use Rattle.def_running_node.specs.NodeSessions as definition
use Rattle.def_running_node.specs.NodeRuns as runs
use Rattle.tn_term.specs.Views.{mfa_seen, alive_of}
use Rattle.tn_session.specs.Views.{mark_kind_seen}
use Rattle.tn_running_node.specs.declared.node_mark.NodeMark.{NodeMark}
use Rattle.tn_running_node.specs.declared.signals.Signal.{Signal}
use Rattle.tn_running_node.specs.declared.node_run.ProcessEnd.{ProcessEnd}
use Rattle.tn_running_node.specs.declared.node_run.NodeRun.{NodeRun}

abbrev pub node_mark_seen : {A : Type 0} → NodeMark A → definition.NodeMark
node_mark_seen m = record { process = m.process; depth = m.depth; kind = mark_kind_seen m.kind; mfa = mfa_seen m.mfa }

abbrev pub node_marks_seen : {A : Type 0} → Vec (NodeMark A) A → List definition.NodeMark
node_marks_seen v = map node_mark_seen v.items

abbrev pub signal_seen : Signal → runs.Signal
signal_seen x = record { process = x.process; of_error = x.of_error; is_reported = x.is_reported }

abbrev pub signals_seen : {A : Type 0} → Vec Signal A → List runs.Signal
signals_seen v = map signal_seen v.items

abbrev pub ended_seen : ProcessEnd → ℕ × Bool
ended_seen e = (e.process, e.of_error)

abbrev pub node_run_seen : {A : Type 0} → NodeRun A → runs.NodeRun
node_run_seen r = record { alive = alive_of r.alive; signals = signals_seen r.signals; ended = option_map ended_seen r.ended; is_determined = r.is_determined }

-- the lines of several messages
abbrev pub lines_seen : {A : Type 0} → Vec (Vec ℕ A) A → List (List ℕ)
lines_seen v = map (λ l. l.items) v.items
