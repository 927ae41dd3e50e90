-- What a node reports of an event, by the code's scene.
use Rattle.std.specs.Prelude.{ℕ, List, map, Option}
use Rattle.def_term.specs.Tree.{Tree}
use Rattle.def_node.specs.Event.{Event}
use Rattle.tn_node.specs.Outlooks.{outlook_seen}
use Rattle.tn_running_node.specs.Messages.{sight_view, exit_messages_by, run_messages_by}
use Rattle.tn_running_node.specs.Views.{node_mark_seen, node_run_seen}
use Rattle.tn_running_node.specs.declared.messages.Scene.{Scene}

-- of an exit that isn't reported already
abbrev pub exit_messages_in : {A : Type 0} → Scene A → ℕ → Tree → Option Tree → List Tree
exit_messages_in s p x m = exit_messages_by (node_run_seen s.run.now) (outlook_seen s.outlook) (map node_mark_seen s.marks.now) (sight_view s.sight) p x m

abbrev pub messages_in : {A : Type 0} → Scene A → Event → Option Tree → List Tree
messages_in s e m = run_messages_by (node_run_seen s.run.now) (outlook_seen s.outlook) (map node_mark_seen s.marks.now) (sight_view s.sight) e m
