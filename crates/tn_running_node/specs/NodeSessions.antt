-- What a session of a running node makes of an event.
use Rattle.std.specs.Prelude.{◌≡◌, ℕ, Bool, List, Option, Some, option_to_list}
use Rattle.std.specs.Option.{IsSomeAnd}
use Rattle.std.specs.declared.vec.Vec.{Vec}
use Rattle.def_term.specs.Names.{Mfa}
use Rattle.def_term.specs.Tree.{Tree}
use Rattle.def_node.specs.Event.{Event}
use Rattle.def_session.specs.State as definition
use Rattle.def_session.specs.Session.{event_reported}
use Rattle.def_running_node.specs.NodeSessions.{marks_after, reported_there}
use Rattle.def_running_node.specs.NodeRuns.{run_messages}
use Rattle.def_running_node.specs.NodeComparisons.{texts}
use Rattle.tn_flags.specs.Views.{event_of}
use Rattle.tn_flags.specs.declared.event.Event as flags
use Rattle.tn_node.specs.Outlooks.{outlook_seen}
use Rattle.tn_node.specs.declared.outlook.Outlook.{Outlook}
use Rattle.tn_session.specs.Sessions.{SessionValue, value_in}
use Rattle.tn_session.specs.declared.session.Session.{Session}
use Rattle.tn_session.specs.declared.message.Message.{Message}
use Rattle.tn_running_node.specs.SameMessages.{IsMessageOfEvent, lines_there}
use Rattle.tn_running_node.specs.Views.{node_marks_seen, node_run_seen, lines_seen}
use Rattle.tn_running_node.specs.declared.node_run.NodeRun.{NodeRun}
use Rattle.tn_running_node.specs.declared.node_session.NodeSession.{NodeSession}

-- a session in this state, which saw the event, and these are the lines of its messages; where there are none, those of the message here, which is of the event
pub record SeesThereFrom {A : Type 0} (r : NodeRun A) (l : Outlook) (e : flags.Event A) (here : Option (Message A)) (old new : NodeSession A) (lines : Option (Vec (Vec ℕ A) A)) (v : SessionValue) (there : definition.Session × Option Tree) : Type 0 where
  pub session : value_in new.session ≡ Some (record v { state = there.0 })
  pub marks : node_marks_seen new.marks ≡ marks_after there.0 (node_marks_seen old.marks) (event_of e)
  pub messages : IsMessageOfEvent e here → lines_there here lines ≡ texts (run_messages (node_run_seen r) (outlook_seen l) (record { session = v.state; marks = node_marks_seen old.marks }) there.0 (event_of e) there.1)

abbrev pub SeesThere : {A : Type 0} → NodeRun A → Outlook → flags.Event A → Option (Message A) → NodeSession A → NodeSession A → Option (Vec (Vec ℕ A) A) → Type 0
SeesThere r l e here old new lines = IsSomeAnd (value_in old.session) (λ v. SeesThereFrom r l e here old new lines v (reported_there v.state (event_of e)))

-- ---- by the rules of the model

-- the session saw the event, and these are the lines of its message
pub record SeesHereFrom {A : Type 0} (new : Session A) (lines : Vec (Vec ℕ A) A) (functions : List (Mfa × Bool)) (here : definition.Session × Option Tree) : Type 0 where
  pub session : value_in new ≡ Some (record { functions = functions; state = here.0 })
  pub messages : lines_seen lines ≡ texts (option_to_list here.1)

abbrev pub SeesHere : {A : Type 0} → Event → Session A → Session A → Vec (Vec ℕ A) A → Type 0
SeesHere e old new lines = IsSomeAnd (value_in old) (λ v. SeesHereFrom new lines v.functions (event_reported v.state e))

-- a session of a node saw it so, and its marks stayed
abbrev pub SeesAsHere : {A : Type 0} → Event → NodeSession A → NodeSession A → Vec (Vec ℕ A) A → Type 0
SeesAsHere e old new lines = SeesHere e old.session new.session lines × (new.marks ≡ old.marks)
