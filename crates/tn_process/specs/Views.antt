-- What the code's values stand for.
use Rattle.std.specs.Prelude.{List, map, reverse}
use Rattle.std.specs.Option.{option_map}
use Rattle.std.specs.declared.vec.Vec.{Vec}
use Rattle.def_term.specs.Tree.{Tree}
use Rattle.def_term.specs.Names.{Name}
use Rattle.tn_term.specs.Views.{tree_of}
use Rattle.tn_term.specs.SharedTree.{shared_tree}
use Rattle.tn_flags.specs.Views.{class_of, event_of}
use Rattle.tn_flags.specs.declared.event.Event as code
use Rattle.tn_script.specs.Views.{entry_of}
use Rattle.def_node.specs.Event.{Event}
use Rattle.def_node.specs.Values as values
use Rattle.def_node.specs.Process as process
use Rattle.tn_process.specs.declared.env.Binding.{Binding}
use Rattle.tn_process.specs.declared.env.Env.{Env}
use Rattle.tn_process.specs.Bindings.{bound_name}
use Rattle.tn_process.specs.declared.act.Act.{Act}
use Rattle.tn_process.specs.declared.act.Act.TheVariants.{Waits, Continues, Sends, LinksTo, UnlinksFrom, Spawns, Exits}
use Rattle.tn_process.specs.declared.exception.Exception.{Exception}
use Rattle.tn_process.specs.declared.process.Frame.{Frame}
use Rattle.tn_process.specs.declared.process.Process.{Process}

abbrev pub name_and_term : {A : Type 0} → Binding A → Name × Tree
name_and_term b = (bound_name b, shared_tree b.value)

abbrev pub env_of : {A : Type 0} → Env A → values.Env
env_of e = map name_and_term e.values.items

abbrev pub frame_of : {A : Type 0} → Frame A → process.Frame
frame_of f = record { function = f.function; place = f.place; env = env_of f.env; target = f.target; by_catch = f.by_catch }

abbrev pub process_seen : {A : Type 0} → Process A → process.Process
process_seen p = record {
  entry = option_map entry_of p.entry;
  frames = reverse (map frame_of p.frames.items);
  mailbox = map shared_tree p.mailbox.items;
  signal = option_map tree_of p.signal;
  links = p.links;
}

abbrev pub exception_view : {A : Type 0} → Exception A → process.Exception
exception_view e = record { class = class_of e.class; value = shared_tree e.value }

abbrev pub events_of : {A : Type 0} → Vec (code.Event A) A → List Event
events_of es = map event_of es.items

-- what a process does, where q is the process afterwards
abbrev pub act_seen : {A : Type 0} → process.Process → Act A → process.Act
act_seen q Waits = process.waits q
act_seen q (Continues es) = process.continues q (events_of es)
act_seen q (Sends to t) = process.sends q to (shared_tree t)
act_seen q (LinksTo n) = process.links_to q n
act_seen q (UnlinksFrom n) = process.unlinks_from q n
act_seen q (Spawns child e) = process.spawns q child (entry_of e)
act_seen q (Exits r es) = process.exits q.links (tree_of r) (events_of es)

abbrev pub act_of : {A : Type 0} → Process A → Act A → process.Act
act_of p Waits = process.waits (process_seen p)
act_of p (Continues es) = process.continues (process_seen p) (events_of es)
act_of p (Sends to t) = process.sends (process_seen p) to (shared_tree t)
act_of p (LinksTo n) = process.links_to (process_seen p) n
act_of p (UnlinksFrom n) = process.unlinks_from (process_seen p) n
act_of p (Spawns child e) = process.spawns (process_seen p) child (entry_of e)
act_of p (Exits r es) = process.exits p.links (tree_of r) (events_of es)
