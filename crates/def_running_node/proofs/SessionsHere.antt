-- The sessions here are those of the history of a run, and those there are what a session of a node makes of it.
use Rattle.std.proofs.Common.{◌≡◌, Bool, true, false, List, [], ◌∷◌, map, filter, None, bytes_eq, refl, ap, ap₂, ◌∙◌, if◌then◌else◌}
use Rattle.std.proofs.lemmas.Slice.Eq.{bytes_eq-Decides}
use Rattle.def_term.specs.Names.{Name}
use Rattle.def_script.specs.Program.{Command, session_of}
use Rattle.def_script.specs.Exports.{Exports, exports_of}
use Rattle.def_script.specs.Script.{creations}
use Rattle.def_node.specs.Event.{Event}
use Rattle.def_outlook.specs.Outlook.{Outlook}
use Rattle.def_session.specs.State.{Phase, absent, live, destroyed, absent_session}
use Rattle.def_session.specs.Session.{event_reported}
use Rattle.def_session.specs.Commands.{command_done}
use Rattle.def_run.specs.Run.{HistoryItem, event_item, command_item}
use Rattle.def_run.specs.History.{NamedSession, after, all_after, all_after_items}
use Rattle.def_explain.specs.RunTexts.{is_session}
use Rattle.def_running_node.specs.NodeReplies.{node_command}
use Rattle.def_running_node.specs.NodeRuns.{NodeRun, run_after}
use Rattle.def_running_node.specs.NodeComparisons.{SessionPair, Comparison, determined_in, pair_after_in, pair_after_command, after_item, pair_at_start}
use Rattle.def_running_node.specs.Laws.{sessions_here, SessionsHereAtStart, SessionsHereGoByHistory, SessionThereGoesByEvents, SessionThereGoesByCommands}

-- one session here
abbrev here_of : SessionPair → NamedSession
here_of s = (s.name, s.here)

-- ---- before any move

all-absent : (o : Exports) (ss : List (Name × Name)) → map here_of (map (λ s. pair_at_start o s.0) (filter (λ s. is_session None s.0) ss)) ≡ map (λ s. (s.0, absent_session o)) ss
all-absent o [] = refl
all-absent o (s ∷ ss) = ap (λ ts. (s.0, absent_session o) ∷ ts) (all-absent o ss)

pub sessions_here_at_start : SessionsHereAtStart
sessions_here_at_start p = all-absent (exports_of p) (creations p.commands)

-- ---- after an event or a command

each : (f : SessionPair → SessionPair) (g : NamedSession → NamedSession) → ((s : SessionPair) → here_of (f s) ≡ g (here_of s)) → (ss : List SessionPair) → map here_of (map f ss) ≡ map g (map here_of ss)
each f g h [] = refl
each f g h (s ∷ ss) = ap₂ (λ t ts. t ∷ ts) (h s) (each f g h ss)

after-event : (x : Phase) (q : NodeRun) (l : Outlook) (s : SessionPair) (e : Event) → here_of (pair_after_in x q l s e) ≡ (s.name, (event_reported s.here e).0)
after-event absent q l s e = refl
after-event destroyed q l s e = refl
after-event live q l s e = refl

after-command : (o : Exports) (r : NodeRun) (s : SessionPair) (k : Command) → here_of (pair_after_command o r s k) ≡ after o (here_of s) (command_item k)
after-command o r s k = go (bytes_eq s.name (session_of k))
  where
    go : (b : Bool) → here_of (if b then record s { here = (command_done o s.here k).0; there = record s.there { session = (node_command o s.there.session k).0 }; is_determined = determined_in r s } else s)
        ≡ (s.name, if b then (command_done o s.here k).0 else s.here)
    go true = refl
    go false = refl

one-after : (o : Exports) (l : Outlook) (c : Comparison) (x : HistoryItem) → sessions_here (after_item o l c x) ≡ all_after o (sessions_here c) x
one-after o l c (event_item e) =
    let q : NodeRun = run_after c.run l e in each (λ s. pair_after_in s.here.phase q l s e) (λ s. after o s (event_item e)) (λ s. after-event s.here.phase q l s e) c.sessions
one-after o l c (command_item k) = each (λ s. pair_after_command o c.run s k) (λ s. after o s (command_item k)) (λ s. after-command o c.run s k) c.sessions

pub sessions_here_go_by_history : SessionsHereGoByHistory
sessions_here_go_by_history o l c [] = refl
sessions_here_go_by_history o l c (x ∷ xs) = sessions_here_go_by_history o l (after_item o l c x) xs ∙ ap (λ ss. all_after_items o ss xs) (one-after o l c x)

-- ---- there

pub session_there_goes_by_events : SessionThereGoesByEvents
session_there_goes_by_events q l s e h = ap (λ x. (pair_after_in x q l s e).there) h

pub session_there_goes_by_commands : SessionThereGoesByCommands
session_there_goes_by_commands o r s k h =
    ap (λ b. (if b then record s { here = (command_done o s.here k).0; there = record s.there { session = (node_command o s.there.session k).0 }; is_determined = determined_in r s } else s).there.session)
    ((bytes_eq-Decides s.name (session_of k)).1 h)
