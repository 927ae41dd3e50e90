-- What the code's comparison stands for, and what becomes of it.
use Rattle.std.specs.Prelude.{◌≡◌, ℕ, List, [], ◌∷◌, ◌++◌, map, flat_map}
use Rattle.std.specs.declared.vec.Vec.{Vec}
use Rattle.def_term.specs.Alive.{Alive}
use Rattle.def_node.specs.Event.{Event}
use Rattle.def_outlook.specs.Outlook.{OwnLink}
use Rattle.def_script.specs.Exports.{Exports, visible}
use Rattle.def_script.specs.Program.{Command}
use Rattle.def_outlook.specs.Outlook as outlook
use Rattle.def_session.specs.State.{alive_after}
use Rattle.def_run.specs.Run.{HistoryItem, event_item, command_item}
use Rattle.def_running_node.specs.NodeRuns.{run_after}
use Rattle.def_running_node.specs.NodeComparisons as definition
use Rattle.def_running_node.specs.NodeComparisons.{NamedLine, lines_with_name, named_line_text, lines_differ, lines_are_open, pair_after_in, lines_of_event_in, own_link_event, pair_after_own_link_in, lines_of_own_link_in, lines_of_own_link, pair_after_command, lines_of_command, after_item, lines_of_item, after_items, lines_of_items, after_own_link, after_pick, lines_of_move}
use Rattle.tn_term.specs.Views.{alive_of}
use Rattle.tn_flags.specs.Views.{event_of, command_of}
use Rattle.tn_flags.specs.declared.event.Event as flags
use Rattle.tn_flags.specs.declared.command.Command as commands
use Rattle.tn_script.specs.Views.{functions_of}
use Rattle.tn_script.specs.declared.form.Function.{Function}
use Rattle.tn_node.specs.Outlooks.{outlook_seen}
use Rattle.tn_node.specs.declared.outlook.Outlook.{Outlook}
use Rattle.tn_trace.specs.Slots.{EachPair}
use Rattle.tn_running_node.specs.Pairs.{IsPair}
use Rattle.tn_running_node.specs.Views.{node_run_seen}
use Rattle.tn_running_node.specs.declared.comparison.Comparison.{Comparison}
use Rattle.tn_running_node.specs.declared.lines.LineKinds.{LineKinds}
use Rattle.tn_running_node.specs.declared.node_run.NodeRun.{NodeRun}
use Rattle.tn_running_node.specs.declared.pair.SessionPair.{SessionPair}
use Rattle.tn_running_node.specs.declared.pair.NodeStep.{NodeStep}

-- these lines were appended, and this is what they are
pub record PutsNamed {A : Type 0} (ls : List NamedLine) (out out' : Vec ℕ A) (kinds : LineKinds) : Type 0 where
  pub written : out'.items ≡ out.items ++ flat_map named_line_text ls
  pub differs : kinds.differs ≡ lines_differ ls
  pub open_lines : kinds.is_open ≡ lines_are_open ls

-- a pair after an event, and its lines
abbrev pub after_event : {A : Type 0} → NodeStep A → Event → definition.SessionPair → definition.SessionPair
after_event step e c = let l = outlook_seen step.outlook in pair_after_in c.here.phase (run_after (node_run_seen step.run.now) l e) l c e

abbrev pub lines_at : {A : Type 0} → NodeStep A → Event → definition.SessionPair → List NamedLine
lines_at step e c = let r = node_run_seen step.run.now in let l = outlook_seen step.outlook in lines_with_name c.name (lines_of_event_in c.here.phase r (run_after r l e) l c e)

-- the pairs saw the event
pub record SawEach {A : Type 0} (o : Exports) (living : Alive) (step : NodeStep A) (e : Event) (cs : List definition.SessionPair) (new : List (SessionPair A)) (out out' : Vec ℕ A) (kinds : LineKinds) : Type 0 where
  pub pairs : EachPair (IsPair o (alive_after living e)) (map (after_event step e) cs) new
  pub lines : PutsNamed (flat_map (lines_at step e) cs) out out' kinds

abbrev pub PairsSee : {A : Type 0} → NodeStep A → flags.Event A → List (SessionPair A) → List (SessionPair A) → Vec ℕ A → Vec ℕ A → LineKinds → Type 0
PairsSee step event old new out out' kinds = (o : Exports) (living : Alive) (cs : List definition.SessionPair) → EachPair (IsPair o living) cs old → SawEach o living step (event_of event) cs new out out' kinds

-- ---- a comparison

-- the comparison is this one, over the functions of the program
pub record IsComparison {A : Type 0} (o : Exports) (c : definition.Comparison) (k : Comparison A) : Type 0 where
  pub run : node_run_seen k.run ≡ c.run
  pub pairs : EachPair (IsPair o c.run.alive) c.sessions k.pairs.items

-- it is that one now, and these lines were appended
pub record BecomesComparison {A : Type 0} (o : Exports) (after : definition.Comparison) (ls : List NamedLine) (new : Comparison A) (out out' : Vec ℕ A) (kinds : LineKinds) : Type 0 where
  pub comparison : IsComparison o after new
  pub lines : PutsNamed ls out out' kinds

abbrev pub ComparesOneEvent : {A : Type 0} → Outlook → flags.Event A → Comparison A → Comparison A → Vec ℕ A → Vec ℕ A → LineKinds → Type 0
ComparesOneEvent outlook event old new out out' kinds =
    (o : Exports) (c : definition.Comparison) → IsComparison o c old →
    let x : HistoryItem = event_item (event_of event) in let l = outlook_seen outlook in BecomesComparison o (after_item o l c x) (lines_of_item o l c x) new out out' kinds

abbrev pub ComparesEvents : {A : Type 0} → Outlook → List (flags.Event A) → Comparison A → Comparison A → Vec ℕ A → Vec ℕ A → LineKinds → Type 0
ComparesEvents outlook events old new out out' kinds =
    (o : Exports) (c : definition.Comparison) → IsComparison o c old →
    let xs : List HistoryItem = map event_item (map event_of events) in let l = outlook_seen outlook in BecomesComparison o (after_items o l c xs) (lines_of_items o l c xs) new out out' kinds

-- ---- a link of a process with itself

abbrev pub own_lines_at : {A : Type 0} → NodeRun A → Event → definition.SessionPair → List NamedLine
own_lines_at r e c = lines_with_name c.name (lines_of_own_link_in c.here.phase (node_run_seen r) c e)

abbrev pub after_own_link_at : {A : Type 0} → NodeRun A → definition.SessionPair → definition.SessionPair
after_own_link_at r c = pair_after_own_link_in c.here.phase (node_run_seen r) c

-- the pairs are as they were, but for what is determined
pub record SawOwnLinkEach {A : Type 0} (o : Exports) (living : Alive) (r : NodeRun A) (e : Event) (cs : List definition.SessionPair) (new : List (SessionPair A)) (out out' : Vec ℕ A) (kinds : LineKinds) : Type 0 where
  pub pairs : EachPair (IsPair o living) (map (after_own_link_at r) cs) new
  pub lines : PutsNamed (flat_map (own_lines_at r e) cs) out out' kinds

abbrev pub PairsSeeOwnLink : {A : Type 0} → NodeRun A → flags.Event A → List (SessionPair A) → List (SessionPair A) → Vec ℕ A → Vec ℕ A → LineKinds → Type 0
PairsSeeOwnLink r event old new out out' kinds =
    (o : Exports) (living : Alive) (cs : List definition.SessionPair) (p : ℕ) (x : OwnLink) → event_of event ≡ own_link_event p x → EachPair (IsPair o living) cs old
    → SawOwnLinkEach o living r (event_of event) cs new out out' kinds

-- the lines of a step without events
abbrev pub own_link_lines : ℕ → definition.Comparison → Outlook → List NamedLine
own_link_lines pick c l = flat_map (λ s. lines_with_name s.name (lines_of_own_link c.run s pick (outlook_seen l).own_link)) c.sessions

abbrev pub ComparesOwnLink : {A : Type 0} → ℕ → Outlook → Comparison A → Comparison A → Vec ℕ A → Vec ℕ A → LineKinds → Type 0
ComparesOwnLink pick outlook old new out out' kinds = (o : Exports) (c : definition.Comparison) → IsComparison o c old → BecomesComparison o (after_own_link (outlook_seen outlook) c) (own_link_lines pick c outlook) new out out' kinds

-- a move
abbrev pub ComparesOneMove : {A : Type 0} → ℕ → Outlook → List (flags.Event A) → Comparison A → Comparison A → Vec ℕ A → Vec ℕ A → LineKinds → Type 0
ComparesOneMove pick outlook events old new out out' kinds =
    (o : Exports) (c : definition.Comparison) → IsComparison o c old →
    let xs : List HistoryItem = map event_item (map event_of events) in let l = outlook_seen outlook in BecomesComparison o (after_pick o l pick c xs) (lines_of_move o l pick c xs) new out out' kinds

-- ---- a command

abbrev pub command_lines_at : {A : Type 0} → Exports → NodeRun A → Command → definition.SessionPair → List NamedLine
command_lines_at o r k c = lines_with_name c.name (lines_of_command o (node_run_seen r) c k)

-- the session that it names did it
pub record DidCommandEach {A : Type 0} (o : Exports) (r : NodeRun A) (k : Command) (cs : List definition.SessionPair) (new : List (SessionPair A)) (out out' : Vec ℕ A) (kinds : LineKinds) : Type 0 where
  pub pairs : EachPair (IsPair o (alive_of r.alive)) (map (λ c. pair_after_command o (node_run_seen r) c k) cs) new
  pub lines : PutsNamed (flat_map (command_lines_at o r k) cs) out out' kinds

abbrev pub PairsObey : {A : Type 0} → NodeRun A → List (Function A) → commands.Command A → Vec (SessionPair A) A → Vec (SessionPair A) A → Vec ℕ A → Vec ℕ A → LineKinds → Type 0
PairsObey r functions command old new out out' kinds =
    (o : Exports) (cs : List definition.SessionPair) → o.functions ≡ visible (functions_of functions) → EachPair (IsPair o (alive_of r.alive)) cs old.items → DidCommandEach o r (command_of command) cs new.items out out' kinds

-- a move that takes a command, whatever is known of it before; these are the functions of the program
abbrev pub ComparesCommand : {A : Type 0} → ℕ → List (Function A) → commands.Command A → Comparison A → Comparison A → Vec ℕ A → Vec ℕ A → LineKinds → Type 0
ComparesCommand pick functions command old new out out' kinds =
    (o : Exports) (l : outlook.Outlook) (c : definition.Comparison) → o.functions ≡ visible (functions_of functions) → IsComparison o c old →
    let xs : List HistoryItem = command_item (command_of command) ∷ [] in BecomesComparison o (after_pick o l pick c xs) (lines_of_move o l pick c xs) new out out' kinds
