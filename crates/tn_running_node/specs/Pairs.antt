-- What the code's sessions here and on a node stand for, and what becomes of them.
use Rattle.std.specs.Prelude.{◌≡◌, ℕ, Bool, true, List, [], map, filter, Option, Some, None, option_to_list}
use Rattle.std.specs.Option.{IsSomeAnd}
use Rattle.std.specs.Str.{bytes_eq}
use Rattle.std.specs.declared.vec.Vec.{Vec}
use Rattle.def_term.specs.Alive.{Alive}
use Rattle.def_term.specs.Names.{Mfa, Name}
use Rattle.def_term.specs.Tree.{Tree}
use Rattle.def_node.specs.Event.{Event}
use Rattle.def_outlook.specs.Outlook.{OwnLink}
use Rattle.def_script.specs.Exports.{Exports, visible}
use Rattle.def_script.specs.Program.{Command, session_of}
use Rattle.def_session.specs.State as definition
use Rattle.def_session.specs.State.{absent, live, new_session, alive_after}
use Rattle.def_session.specs.Session.{event_reported}
use Rattle.def_explain.specs.RunTexts.{is_session}
use Rattle.def_running_node.specs.NodeReplies.{node_command}
use Rattle.def_running_node.specs.NodeSessions as node
use Rattle.def_running_node.specs.NodeSessions.{marks_after, reported_there}
use Rattle.def_running_node.specs.NodeRuns as runs
use Rattle.def_running_node.specs.NodeRuns.{run_after, run_messages, opens, hides, lines_by_openness}
use Rattle.def_running_node.specs.NodeComparisons as comparison
use Rattle.def_running_node.specs.NodeComparisons.{texts, pair_determined_after, pair_elsewhere, pair_after_in, lines_of_event_in, own_link_event, pair_after_own_link_in, lines_of_own_link_in, pair_after_command, lines_of_command}
use Rattle.tn_term.specs.Views.{alive_of}
use Rattle.tn_flags.specs.Views.{event_of, command_of}
use Rattle.tn_flags.specs.declared.event.Event as flags
use Rattle.tn_flags.specs.declared.command.Command as commands
use Rattle.tn_script.specs.Views.{functions_of}
use Rattle.tn_script.specs.declared.form.Function.{Function}
use Rattle.tn_node.specs.Outlooks.{outlook_seen}
use Rattle.tn_node.specs.declared.outlook.Outlook.{Outlook}
use Rattle.tn_session.specs.Sessions.{value_in}
use Rattle.tn_session.specs.declared.session.Session.{Session}
use Rattle.tn_trace.specs.Slots.{IsSession}
use Rattle.tn_trace.specs.declared.discard.Discard.{Discard}
use Rattle.tn_trace.specs.declared.slot.Slot.{Slot}
use Rattle.tn_running_node.specs.Lines.{PutsBothLines}
use Rattle.tn_running_node.specs.Views.{node_marks_seen, node_run_seen}
use Rattle.tn_running_node.specs.declared.lines.LineKinds.{LineKinds}
use Rattle.tn_running_node.specs.declared.node_run.NodeRun.{NodeRun}
use Rattle.tn_running_node.specs.declared.node_session.NodeSession.{NodeSession}
use Rattle.tn_running_node.specs.declared.pair.SessionPair.{SessionPair}
use Rattle.tn_running_node.specs.declared.pair.NodeStep.{NodeStep}
use Rattle.tn_running_node.specs.declared.pair.Openness.{Openness}

-- the session saw the event
abbrev pub SeesSilently : {A : Type 0} → Event → Session A → Session A → Type 0
SeesSilently e old new = IsSomeAnd (value_in old) (λ v. value_in new ≡ Some (record v { state = (event_reported v.state e).0 }))

-- ---- a pair

-- a session of a node that isn't there is absent, where these processes live, and has no marks
abbrev pub IsThere : {A : Type 0} → List (Mfa × Bool) → Alive → node.NodeSession → Option (NodeSession A) → Type 0
IsThere fs living n None = (n.session ≡ new_session absent living) × (n.marks ≡ [])
IsThere fs living n (Some s) = (value_in s.session ≡ Some (record { functions = fs; state = n.session })) × (node_marks_seen s.marks ≡ n.marks)

-- the pair is this one, over the functions of the program and where these processes live
pub record IsPair {A : Type 0} (o : Exports) (living : Alive) (c : comparison.SessionPair) (pair : SessionPair A) : Type 0 where
  pub name : pair.here.name ≡ c.name
  pub here : IsSession o.functions living c.here pair.here.session
  pub there : IsThere o.functions living c.there pair.there
  pub determined : pair.is_determined ≡ c.is_determined

-- a live pair after an event, where what it reports is determined then as this says
abbrev pub live_pair_after : comparison.SessionPair → Event → (is_determined : Bool) → comparison.SessionPair
live_pair_after c e b =
    let there : definition.Session × Option Tree = reported_there c.there.session e in
    record c { here = (event_reported c.here e).0; there = record { session = there.0; marks = marks_after there.0 c.there.marks e }; is_determined = b }

-- where both saw the event, the lines between them were appended
pub record SawBoth {A : Type 0} (o : Exports) (step : NodeStep A) (event : flags.Event A) (is_determined : Bool) (c : comparison.SessionPair) (new : SessionPair A) (out out' : Vec ℕ A) (kinds : LineKinds) : Type 0 where
  pub pair : (living : Alive) → IsPair o living (live_pair_after c (event_of event) is_determined) new
  pub lines : let e : Event = event_of event in let r = node_run_seen step.run.now in let l = outlook_seen step.outlook in
      let there : definition.Session × Option Tree = reported_there c.there.session e in
      PutsBothLines c.name (lines_by_openness c.is_determined is_determined
      (texts (option_to_list (event_reported c.here e).1)) (texts (run_messages r l c.there there.0 e there.1))) out out' kinds

abbrev pub PairSeesBoth : {A : Type 0} → NodeStep A → flags.Event A → Bool → SessionPair A → SessionPair A → Vec ℕ A → Vec ℕ A → LineKinds → Type 0
PairSeesBoth step event b old new out out' kinds = (o : Exports) (living : Alive) (c : comparison.SessionPair) → IsPair o living c old → SawBoth o step event b c new out out' kinds

-- the pair of sessions that aren't there saw the event
abbrev pub PairSeesElsewhere : {A : Type 0} → flags.Event A → SessionPair A → SessionPair A → Type 0
PairSeesElsewhere event old new =
    (o : Exports) (living : Alive) (c : comparison.SessionPair) → IsPair o living c old → IsPair o (alive_after living (event_of event)) (pair_elsewhere c (event_of event)) new

-- this isn't determined of an event, by the session there
pub record IsOpenness (l : Outlook) (e : Event) (s : definition.Session) (openness : Openness) : Type 0 where
  pub opens : openness.opens ≡ opens s e
  pub hides : openness.hides ≡ hides s (outlook_seen l) e

abbrev pub HasOpenness : {A : Type 0} → Outlook → flags.Event A → SessionPair A → Openness → Type 0
HasOpenness l event pair openness =
    (o : Exports) (living : Alive) (c : comparison.SessionPair) → IsPair o living c pair → IsOpenness l (event_of event) c.there.session openness

-- after the event what is reported there is determined, or isn't
abbrev pub IsDeterminedAfter : {A : Type 0} → NodeStep A → flags.Event A → SessionPair A → Bool → Type 0
IsDeterminedAfter step event pair b =
    (o : Exports) (living : Alive) (c : comparison.SessionPair) → let e : Event = event_of event in let l = outlook_seen step.outlook in
    IsPair o living c pair → b ≡ pair_determined_after (run_after (node_run_seen step.run.now) l e) l c e

-- the pair saw the event, and the lines between both were appended
pub record Saw {A : Type 0} (o : Exports) (living : Alive) (step : NodeStep A) (e : Event) (c : comparison.SessionPair) (new : SessionPair A) (out out' : Vec ℕ A) (kinds : LineKinds) : Type 0 where
  pub pair : let q : runs.NodeRun = run_after (node_run_seen step.run.now) (outlook_seen step.outlook) e in IsPair o (alive_after living e) (pair_after_in c.here.phase q (outlook_seen step.outlook) c e) new
  pub lines : let r = node_run_seen step.run.now in let l = outlook_seen step.outlook in PutsBothLines c.name (lines_of_event_in c.here.phase r (run_after r l e) l c e) out out' kinds

abbrev pub PairSees : {A : Type 0} → NodeStep A → flags.Event A → SessionPair A → SessionPair A → Vec ℕ A → Vec ℕ A → LineKinds → Type 0
PairSees step event old new out out' kinds = (o : Exports) (living : Alive) (c : comparison.SessionPair) → IsPair o living c old → Saw o living step (event_of event) c new out out' kinds

-- ---- a link of a process with itself

-- the pair is as it was, but for what is determined, and the line that the session has there was appended
pub record SawOwnLink {A : Type 0} (o : Exports) (living : Alive) (r : NodeRun A) (e : Event) (c : comparison.SessionPair) (new : SessionPair A) (out out' : Vec ℕ A) (kinds : LineKinds) : Type 0 where
  pub pair : IsPair o living (pair_after_own_link_in c.here.phase (node_run_seen r) c) new
  pub lines : PutsBothLines c.name (lines_of_own_link_in c.here.phase (node_run_seen r) c e) out out' kinds

abbrev pub PairSeesOwnLink : {A : Type 0} → NodeRun A → flags.Event A → SessionPair A → SessionPair A → Vec ℕ A → Vec ℕ A → LineKinds → Type 0
PairSeesOwnLink r event old new out out' kinds =
    (o : Exports) (living : Alive) (c : comparison.SessionPair) (p : ℕ) (x : OwnLink) → event_of event ≡ own_link_event p x → IsPair o living c old → SawOwnLink o living r (event_of event) c new out out' kinds

-- ---- before any move

-- the pair of a session that isn't created yet
abbrev pub absent_pair : {A : Type 0} → Slot A Discard → SessionPair A
absent_pair slot = record { here = slot; there = None; is_determined = true }

-- those of the sessions that are selected
abbrev pub absent_pairs : {A : Type 0} → Option Name → List (Slot A Discard) → List (SessionPair A)
absent_pairs n slots = map absent_pair (filter (λ s. is_session n s.name) slots)

-- ---- a command

-- the session there did the command, with this reply
pub record DidThere {A : Type 0} (o : Exports) (living : Alive) (k : Command) (c : comparison.SessionPair) (new : SessionPair A) (reply : Tree) : Type 0 where
  pub pair : IsPair o living (record c { there = record c.there { session = (node_command o c.there.session k).0 } }) new
  pub replied : reply ≡ (node_command o c.there.session k).1

-- where the command is to this session, and these are the functions of the program
abbrev pub PairObeysThere : {A : Type 0} → NodeRun A → List (Function A) → commands.Command A → SessionPair A → SessionPair A → Tree → Type 0
PairObeysThere r functions command old new reply =
    (o : Exports) (c : comparison.SessionPair) → o.functions ≡ visible (functions_of functions) → IsPair o (alive_of r.alive) c old
    → bytes_eq c.name (session_of (command_of command)) ≡ true → DidThere o (alive_of r.alive) (command_of command) c new reply

-- the pair did the command where it is to this session, and the lines between both replies were appended
pub record DidCommand {A : Type 0} (o : Exports) (r : NodeRun A) (k : Command) (c : comparison.SessionPair) (new : SessionPair A) (out out' : Vec ℕ A) (kinds : LineKinds) : Type 0 where
  pub pair : IsPair o (alive_of r.alive) (pair_after_command o (node_run_seen r) c k) new
  pub lines : PutsBothLines c.name (lines_of_command o (node_run_seen r) c k) out out' kinds

abbrev pub PairObeys : {A : Type 0} → NodeRun A → List (Function A) → commands.Command A → SessionPair A → SessionPair A → Vec ℕ A → Vec ℕ A → LineKinds → Type 0
PairObeys r functions command old new out out' kinds =
    (o : Exports) (c : comparison.SessionPair) → o.functions ≡ visible (functions_of functions) → IsPair o (alive_of r.alive) c old → DidCommand o r (command_of command) c new out out' kinds
