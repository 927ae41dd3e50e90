-- A session that no command creates stays absent.
use Rattle.std.proofs.Common.{◌≡◌, ℕ, zero, suc, Bool, true, false, cond, List, [], ◌∷◌, ◌++◌, map, refl, ap, ◌∙◌, option_to_list}
use Rattle.std.specs.Prelude.{filter}
use Rattle.std.specs.Str.{bytes_eq}
use Rattle.def_term.specs.Names.{Name, word}
use Rattle.def_script.specs.Program.{Function, Command, create, destroy, set_processes, set_function, set_send, set_receive, session_of, Program}
use Rattle.def_script.specs.Exports.{Exports}
use Rattle.def_script.specs.Rules.{is_creation}
use Rattle.def_script.specs.Script.{creations}
use Rattle.def_node.specs.Event.{Event}
use Rattle.def_node.specs.Node.{Move, moved, idle, next_of}
use Rattle.def_session.specs.State.{absent, Session}
use Rattle.def_session.specs.Session.{event_reported}
use Rattle.def_session.specs.Commands.{command_done}
use Rattle.def_session.proofs.Life.{command_before_creation, event_before_creation}
use Rattle.def_run.specs.Run.{HistoryItem, event_item, command_item, RunState, PickStep, takes_command, goes_to, pick_step_in, pick_step_with, pick_step, history_from, start, events}
use Rattle.def_run.specs.View.{is_own}
use Rattle.def_run.specs.Listing.{session_after}

-- the name isn't one of these sessions'
abbrev pub IsMissing : Name → List (Name × Name) → Type 0
IsMissing n [] = Unit {0}
IsMissing n (s ∷ ss) = (bytes_eq n s.0 ≡ false) × IsMissing n ss

-- a command to the session of this name isn't its creation
abbrev pub IsNoCreation : Name → Command → Type 0
IsNoCreation n c = bytes_eq n (session_of c) ≡ true → is_creation c ≡ false

-- none of the commands creates it
abbrev pub NoneCreates : Name → List Command → Type 0
NoneCreates n [] = Unit {0}
NoneCreates n (c ∷ cs) = IsNoCreation n c × NoneCreates n cs

-- nor does one of what is shown
abbrev pub IsUncreated : Name → List HistoryItem → Type 0
IsUncreated n [] = Unit {0}
IsUncreated n (event_item e ∷ xs) = IsUncreated n xs
IsUncreated n (command_item c ∷ xs) = IsNoCreation n c × IsUncreated n xs

-- ---- commands

first-missing : (n : Name) (c : Command) (cs : List Command) → IsMissing n (creations (c ∷ cs)) → IsNoCreation n c × IsMissing n (creations cs)
first-missing n (create s t) cs h = (λ e. cc (e, h.0), h.1)
first-missing n (destroy s) cs h = (λ e. refl, h)
first-missing n (set_processes s procs how flags) cs h = (λ e. refl, h)
first-missing n (set_function s mfa spec options) cs h = (λ e. refl, h)
first-missing n (set_send s spec) cs h = (λ e. refl, h)
first-missing n (set_receive s spec) cs h = (λ e. refl, h)

missing-uncreated : (n : Name) (cs : List Command) → IsMissing n (creations cs) → NoneCreates n cs
missing-uncreated n [] h = tt
missing-uncreated n (c ∷ cs) h = ((first-missing n c cs h).0, missing-uncreated n cs (first-missing n c cs h).1)

-- ---- what is shown

uncreated-append : (n : Name) (xs ys : List HistoryItem) → IsUncreated n xs → IsUncreated n ys → IsUncreated n (xs ++ ys)
uncreated-append n [] ys h k = k
uncreated-append n (event_item e ∷ xs) ys h k = uncreated-append n xs ys h k
uncreated-append n (command_item c ∷ xs) ys h k = (h.0, uncreated-append n xs ys h.1 k)

pub uncreated-front : (n : Name) (xs ys : List HistoryItem) → IsUncreated n (xs ++ ys) → IsUncreated n xs
uncreated-front n [] ys h = tt
uncreated-front n (event_item e ∷ xs) ys h = uncreated-front n xs ys h
uncreated-front n (command_item c ∷ xs) ys h = (h.0, uncreated-front n xs ys h.1)

pub uncreated-back : (n : Name) (xs ys : List HistoryItem) → IsUncreated n (xs ++ ys) → IsUncreated n ys
uncreated-back n [] ys h = h
uncreated-back n (event_item e ∷ xs) ys h = uncreated-back n xs ys h
uncreated-back n (command_item c ∷ xs) ys h = uncreated-back n xs ys h.1

events-uncreated : (n : Name) (es : List Event) → IsUncreated n (map event_item es)
events-uncreated n [] = tt
events-uncreated n (e ∷ es) = events-uncreated n es

-- a pick shows none, and leaves none
abbrev StepCreatesNone : Name → PickStep → Type 0
StepCreatesNone n t = IsUncreated n t.shown × NoneCreates n t.after.commands

command-creates : (n : Name) (p : RunState) (room : ℕ) (cs : List Command) → NoneCreates n p.commands → NoneCreates n cs → StepCreatesNone n (takes_command p room cs)
command-creates n p room [] h k = (tt, h)
command-creates n p room (c ∷ cs) h k = ((k.0, tt), k.1)

move-creates : (n : Name) (p : RunState) (room : ℕ) (m : Move) → NoneCreates n p.commands → StepCreatesNone n (goes_to p room m)
move-creates n p room (idle w) h = (tt, h)
move-creates n p room (moved w es) h = (events-uncreated n es, h)

in-creates : (n : Name) (ks : List Function) (p : RunState) (room pick : ℕ) → NoneCreates n p.commands → StepCreatesNone n (pick_step_in ks p room pick)
in-creates n ks p room zero h = command-creates n p room p.commands h h
in-creates n ks p room (suc k) h = move-creates n p room (next_of ks p.world (suc k)) h

with-creates : (n : Name) (ks : List Function) (p : RunState) (room pick : ℕ) → NoneCreates n p.commands → StepCreatesNone n (pick_step_with ks p room pick)
with-creates n ks p zero pick h = (tt, h)
with-creates n ks p (suc room) pick h = in-creates n ks p room pick h

history-uncreated : (n : Name) (ks : List Function) (p : RunState) (picks : List ℕ) → NoneCreates n p.commands → IsUncreated n (history_from ks p picks)
history-uncreated n ks p [] h = tt
history-uncreated n ks p (pick ∷ picks) h =
    let t : PickStep = pick_step ks p pick in
    let made : StepCreatesNone n t = with-creates n ks p p.room pick h in
    uncreated-append n t.shown (history_from ks t.after picks) made.0 (history-uncreated n ks t.after picks made.1)

-- a run creates no session but those of the program
pub events-create : (p : Program) (picks : List ℕ) (n : Name) → IsMissing n (creations p.commands) → IsUncreated n (events p picks)
events-create p picks n h = history-uncreated n p.functions (start p) picks (missing-uncreated n p.commands h)

-- ---- its session

pub stays-absent : (o : Exports) (n : Name) (s : Session) (xs : List HistoryItem) → s.phase ≡ absent → IsUncreated n xs → (session_after o s (filter (is_own n) xs)).phase ≡ absent
stays-absent o n s [] h k = h
stays-absent o n s (event_item e ∷ xs) h k = stays-absent o n (event_reported s e).0 xs (ap (λ r. r.0.phase) (event_before_creation s e h) ∙ h) k
stays-absent o n s (command_item c ∷ xs) h k = go (bytes_eq n (session_of c)) refl (λ g. stays-absent o n (command_done o s c).0 xs g k.1) (stays-absent o n s xs h k.1)
  where
    go : (b : Bool) → bytes_eq n (session_of c) ≡ b
        → ((command_done o s c).0.phase ≡ absent → (session_after o (command_done o s c).0 (filter (is_own n) xs)).phase ≡ absent)
        → (session_after o s (filter (is_own n) xs)).phase ≡ absent
        → (session_after o s (cond b (command_item c ∷ filter (is_own n) xs) (filter (is_own n) xs))).phase ≡ absent
    go true e own other = own (ap (λ r. r.0.phase) (command_before_creation o s c h (k.0 e)) ∙ h)
    go false e own other = other

pub absent-silent : (s : Session) (e : Event) → s.phase ≡ absent → option_to_list (event_reported s e).1 ≡ []
absent-silent s e h = ap (λ r. option_to_list r.1) (event_before_creation s e h)

pub absent-reply : (o : Exports) (s : Session) (c : Command) → s.phase ≡ absent → is_creation c ≡ false → (command_done o s c).1 ≡ word "badarg"
absent-reply o s c h k = ap (λ r. r.1) (command_before_creation o s c h k)
