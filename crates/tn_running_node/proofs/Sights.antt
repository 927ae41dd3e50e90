-- What a node reports is by what it looks at.
use Rattle.std.proofs.Common.{◌≡◌, refl, Option}
use Rattle.def_term.specs.Tree.{Tree}
use Rattle.def_node.specs.Event.{Event, sent, received, called, returned, raised, spawning, spawned, exited, linked, unlinked, getting_linked, getting_unlinked}
use Rattle.def_outlook.specs.Outlook.{Outlook}
use Rattle.def_session.specs.State.{Session}
use Rattle.def_running_node.specs.NodeSessions.{NodeSession}
use Rattle.def_running_node.specs.NodeRuns.{NodeRun, run_messages}
use Rattle.tn_running_node.specs.Messages.{sight_of, run_messages_by}

pub messages_by_sight : (r : NodeRun) (l : Outlook) (s : NodeSession) (t : Session) (e : Event) (m : Option Tree) → run_messages r l s t e m ≡ run_messages_by r l s.marks (sight_of s.session t e) e m
messages_by_sight r l s t (sent p x to alive) m = refl
messages_by_sight r l s t (received p sender x) m = refl
messages_by_sight r l s t (called p c) m = refl
messages_by_sight r l s t (returned p f x depth) m = refl
messages_by_sight r l s t (raised p f c x depth) m = refl
messages_by_sight r l s t (spawning p child f args) m = refl
messages_by_sight r l s t (spawned p parent f args) m = refl
messages_by_sight r l s t (exited p x) m = refl
messages_by_sight r l s t (linked p q) m = refl
messages_by_sight r l s t (unlinked p q) m = refl
messages_by_sight r l s t (getting_linked p q) m = refl
messages_by_sight r l s t (getting_unlinked p q) m = refl
