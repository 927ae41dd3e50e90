-- The commands that were taken determine what commands set.
use Rattle.std.proofs.Common.{◌≡◌, ◌+◌, ℕ, zero, suc, List, [], ◌∷◌, ◌++◌, length, take, map, Bool, true, false, if◌then◌else◌, Option, Some, None, Ok, Err, refl, sym, ap, ◌∙◌, arith, cond, append_assoc, length-append}
use Rattle.std.specs.Prelude.{filter}
use Rattle.std.specs.Str.{bytes_eq}
use Rattle.def_term.specs.Tree.{Tree}
use Rattle.def_term.specs.Names.{Name}
use Rattle.def_term.specs.Alive.{is_alive}
use Rattle.def_script.specs.Program.{Function, Command, create, destroy, set_processes, set_function, set_send, set_receive, session_of}
use Rattle.def_script.specs.Exports.{Exports, exports_of}
use Rattle.def_node.specs.Event.{Event, called, returned, raised, spawned, exited, getting_linked}
use Rattle.def_node.specs.Node.{Move, moved, idle, next_of}
use Rattle.def_spec.specs.Flags.{Flags, no_flags, flags_listed}
use Rattle.def_spec.specs.Expressions.{Effect, for_calls, for_sends, for_receives}
use Rattle.def_spec.specs.Reading.{Reads}
use Rattle.def_session.specs.Settings.{FunctionPattern, Setting, plain, setting_of, trace_pattern_of, options_of}
use Rattle.def_session.specs.State.{Phase, absent, live, destroyed, MarkKind, Session, absent_session, with_flags, flags_at}
use Rattle.def_session.specs.Messages.{process_of}
use Rattle.def_session.specs.Session.{inherit, effects_of, all_affected, mark_asked, mark_frame, finish, reported_for, reported_in, event_reported}
use Rattle.def_session.specs.Commands.{Procs, one_process, existing, new_processes, all_processes, procs_of, how_of, changed_flags, flags_set, flags_set_if, function_set, function_set_if, send_set, receive_set, done_live, done_absent, done_destroyed, done_in, command_done, refuse, number_term}
use Rattle.def_run.specs.Run.{HistoryItem, event_item, command_item, RunState, takes_command, goes_to, pick_step_with, pick_step, history_from, run_state_after, events, start, run_state_of}
use Rattle.def_run.specs.View.{is_own}
use Rattle.def_run.specs.Listing.{session_after}
use Rattle.def_explore.specs.Settings.{Settings, settings_in, CommandsDetermineSettings}

-- ---- an event keeps them

marked : (s : Session) (p depth : ℕ) (k : Option MarkKind) → settings_in (mark_frame s p depth k) ≡ settings_in s
marked s p depth None = refl
marked s p depth (Some k) = refl

finished : (s : Session) (e : Event) (es : List Effect) → settings_in (finish s e es) ≡ settings_in s
finished s (called p c) es = marked s p c.depth (mark_asked es)
finished s (returned p f t depth) es = refl
finished s (raised p f c t depth) es = refl
finished s (exited p r) es = refl
finished s _ es = refl

reported : (s : Session) (e : Event) (r : Option (List Effect)) → settings_in (reported_for s e r).0 ≡ settings_in s
reported s e None = finished s e []
reported s e (Some es) = finished (all_affected (process_of e) s es) e es

inherited : (s : Session) (e : Event) → settings_in (inherit s e) ≡ settings_in s
inherited s (spawned p parent f args) = refl
inherited s (getting_linked p q) = refl
inherited s _ = refl

in_phase : (p : Phase) (s : Session) (e : Event) → settings_in (reported_in p s e).0 ≡ settings_in s
in_phase absent s e = refl
in_phase destroyed s e = refl
in_phase live s e = reported (inherit s e) e (effects_of (inherit s e) e) ∙ inherited s e

event_keeps : (s : Session) (e : Event) → settings_in (event_reported s e).0 ≡ settings_in s
event_keeps s e = in_phase s.phase s e

-- ---- a command changes them by themselves

abbrev set_for : Settings → Procs → Bool → Flags → Settings
set_for x (one_process n) on f = x
set_for x existing on f = x
set_for x new_processes on f = record x { new_process_flags = changed_flags on f x.new_process_flags }
set_for x all_processes on f = record x { new_process_flags = changed_flags on f x.new_process_flags }

abbrev set_for_if : Settings → Option Procs → Option Bool → Option Flags → Settings
set_for_if x (Some procs) (Some on) (Some f) = set_for x procs on f
set_for_if x _ _ _ = x

abbrev with_function : Settings → FunctionPattern → Bool → Reads Setting → Settings
with_function x covered local (Err e) = x
with_function x covered local (Ok setting) = record x { functions = record { covered = covered; setting = setting; local = local } ∷ x.functions }

abbrev with_function_if : Settings → Option FunctionPattern → Option Bool → Tree → Settings
with_function_if x (Some covered) (Some local) spec = with_function x covered local (setting_of for_calls spec)
with_function_if x _ _ spec = x

abbrev with_sending : Settings → Reads Setting → Settings
with_sending x (Err e) = x
with_sending x (Ok setting) = record x { sending = setting }

abbrev with_receiving : Settings → Reads Setting → Settings
with_receiving x (Err e) = x
with_receiving x (Ok setting) = record x { receiving = setting }

abbrev set_live : Settings → Command → Settings
set_live x (create name tracer) = x
set_live x (destroy name) = record { phase = destroyed; functions = []; sending = plain; receiving = plain; new_process_flags = no_flags }
set_live x (set_processes name procs how flags) = set_for_if x (procs_of procs) (how_of how) (flags_listed flags)
set_live x (set_function name mfa spec options) = with_function_if x (trace_pattern_of mfa) (options_of options) spec
set_live x (set_send name spec) = with_sending x (setting_of for_sends spec)
set_live x (set_receive name spec) = with_receiving x (setting_of for_receives spec)

abbrev set_absent : Settings → Command → Settings
set_absent x (create name tracer) = record x { phase = live }
set_absent x _ = x

abbrev set_in : Phase → Settings → Command → Settings
set_in absent x c = set_absent x c
set_in live x c = set_live x c
set_in destroyed x c = x

flags_go : (s : Session) (procs : Procs) (on : Bool) (f : Flags) → settings_in (flags_set s procs on f).0 ≡ set_for (settings_in s) procs on f
flags_go s (one_process n) on f = go (is_alive s.alive n)
  where
    go : (b : Bool) → settings_in (if b then (with_flags s n (changed_flags on f (flags_at s n)), number_term 1) else refuse s).0 ≡ settings_in s
    go true = refl
    go false = refl
flags_go s existing on f = refl
flags_go s new_processes on f = refl
flags_go s all_processes on f = refl

flags_go_if : (s : Session) (procs : Option Procs) (on : Option Bool) (f : Option Flags) → settings_in (flags_set_if s procs on f).0 ≡ set_for_if (settings_in s) procs on f
flags_go_if s (Some procs) (Some on) (Some f) = flags_go s procs on f
flags_go_if s (Some procs) (Some on) None = refl
flags_go_if s (Some procs) None f = refl
flags_go_if s None on f = refl

function_goes : (o : Exports) (s : Session) (covered : FunctionPattern) (local : Bool) (r : Reads Setting) → settings_in (function_set o s covered local r).0 ≡ with_function (settings_in s) covered local r
function_goes o s covered local (Err e) = refl
function_goes o s covered local (Ok setting) = refl

function_goes_if : (o : Exports) (s : Session) (covered : Option FunctionPattern) (local : Option Bool) (spec : Tree) → settings_in (function_set_if o s covered local spec).0 ≡ with_function_if (settings_in s) covered local spec
function_goes_if o s (Some covered) (Some local) spec = function_goes o s covered local (setting_of for_calls spec)
function_goes_if o s (Some covered) None spec = refl
function_goes_if o s None local spec = refl

send_goes : (s : Session) (r : Reads Setting) → settings_in (send_set s r).0 ≡ with_sending (settings_in s) r
send_goes s (Err e) = refl
send_goes s (Ok setting) = refl

receive_goes : (s : Session) (r : Reads Setting) → settings_in (receive_set s r).0 ≡ with_receiving (settings_in s) r
receive_goes s (Err e) = refl
receive_goes s (Ok setting) = refl

live_goes : (o : Exports) (s : Session) (c : Command) → settings_in (done_live o s c).0 ≡ set_live (settings_in s) c
live_goes o s (create name tracer) = refl
live_goes o s (destroy name) = refl
live_goes o s (set_processes name procs how flags) = flags_go_if s (procs_of procs) (how_of how) (flags_listed flags)
live_goes o s (set_function name mfa spec options) = function_goes_if o s (trace_pattern_of mfa) (options_of options) spec
live_goes o s (set_send name spec) = send_goes s (setting_of for_sends spec)
live_goes o s (set_receive name spec) = receive_goes s (setting_of for_receives spec)

absent_goes : (s : Session) (c : Command) → settings_in (done_absent s c).0 ≡ set_absent (settings_in s) c
absent_goes s (create name tracer) = refl
absent_goes s _ = refl

destroyed_goes : (s : Session) (c : Command) → settings_in (done_destroyed s c).0 ≡ settings_in s
destroyed_goes s (destroy name) = refl
destroyed_goes s _ = refl

goes_in : (p : Phase) (o : Exports) (s : Session) (c : Command) → settings_in (done_in p o s c).0 ≡ set_in p (settings_in s) c
goes_in absent o s c = absent_goes s c
goes_in live o s c = live_goes o s c
goes_in destroyed o s c = destroyed_goes s c

command_goes : (o : Exports) (s : Session) (c : Command) → settings_in (command_done o s c).0 ≡ set_in s.phase (settings_in s) c
command_goes o s c = goes_in s.phase o s c

-- ---- over a history

abbrev commands_in : List HistoryItem → List Command
commands_in [] = []
commands_in (event_item e ∷ items) = commands_in items
commands_in (command_item c ∷ items) = c ∷ commands_in items

abbrev set_by : Settings → List Command → Settings
set_by x [] = x
set_by x (c ∷ cs) = set_by (set_in x.phase x c) cs

by_commands : (o : Exports) (s : Session) (items : List HistoryItem) → settings_in (session_after o s items) ≡ set_by (settings_in s) (commands_in items)
by_commands o s [] = refl
by_commands o s (event_item e ∷ items) = by_commands o (event_reported s e).0 items ∙ ap (λ x. set_by x (commands_in items)) (event_keeps s e)
by_commands o s (command_item c ∷ items) = by_commands o (command_done o s c).0 items ∙ ap (λ x. set_by x (commands_in items)) (command_goes o s c)

own_in : (s : Name) (items : List HistoryItem) → commands_in (filter (is_own s) items) ≡ filter (λ c. bytes_eq s (session_of c)) (commands_in items)
own_in s [] = refl
own_in s (event_item e ∷ items) = own_in s items
own_in s (command_item c ∷ items) = go (bytes_eq s (session_of c)) (own_in s items)
  where
    go : (b : Bool) → commands_in (filter (is_own s) items) ≡ filter (λ c. bytes_eq s (session_of c)) (commands_in items)
        → commands_in (cond b (command_item c ∷ filter (is_own s) items) (filter (is_own s) items)) ≡ cond b (c ∷ filter (λ c. bytes_eq s (session_of c)) (commands_in items)) (filter (λ c. bytes_eq s (session_of c)) (commands_in items))
    go true h = ap (λ cs. c ∷ cs) h
    go false h = h

-- ---- the commands that were taken are those that aren't left

commands-append : (xs ys : List HistoryItem) → commands_in (xs ++ ys) ≡ commands_in xs ++ commands_in ys
commands-append [] ys = refl
commands-append (event_item e ∷ xs) ys = commands-append xs ys
commands-append (command_item c ∷ xs) ys = ap (λ cs. c ∷ cs) (commands-append xs ys)

no_commands : (es : List Event) → commands_in (map event_item es) ≡ []
no_commands [] = refl
no_commands (e ∷ es) = no_commands es

step_takes : (ks : List Function) (q : RunState) (room pick : ℕ) → commands_in (pick_step_with ks q room pick).shown ++ (pick_step_with ks q room pick).after.commands ≡ q.commands
step_takes ks q zero pick = refl
step_takes ks q (suc room) zero = go q.commands refl
  where
    go : (cs : List Command) → q.commands ≡ cs → commands_in (takes_command q room cs).shown ++ (takes_command q room cs).after.commands ≡ q.commands
    go [] e = refl
    go (c ∷ cs) e = sym e
step_takes ks q (suc room) (suc n) = go (next_of ks q.world (suc n))
  where
    go : (m : Move) → commands_in (goes_to q room m).shown ++ (goes_to q room m).after.commands ≡ q.commands
    go (idle w) = refl
    go (moved w es) = ap (λ cs. cs ++ q.commands) (no_commands es)

taken_and_left : (ks : List Function) (q : RunState) (picks : List ℕ) → commands_in (history_from ks q picks) ++ (run_state_after ks q picks).commands ≡ q.commands
taken_and_left ks q [] = refl
taken_and_left ks q (pick ∷ picks) =
    ap (λ cs. cs ++ (run_state_after ks (pick_step ks q pick).after picks).commands) (commands-append (pick_step ks q pick).shown (history_from ks (pick_step ks q pick).after picks))
    ∙ append_assoc (commands_in (pick_step ks q pick).shown) (commands_in (history_from ks (pick_step ks q pick).after picks)) (run_state_after ks (pick_step ks q pick).after picks).commands
    ∙ ap (λ cs. commands_in (pick_step ks q pick).shown ++ cs) (taken_and_left ks (pick_step ks q pick).after picks)
    ∙ step_takes ks q q.room pick

front_of : {X : Type 0} (xs ys : List X) → take (length xs) (xs ++ ys) ≡ xs
front_of [] ys = refl
front_of (x ∷ xs) ys = ap (λ zs. x ∷ zs) (front_of xs ys)

same_front : {X : Type 0} (xs us ys zs : List X) → xs ++ ys ≡ us ++ zs → ys ≡ zs → xs ≡ us
same_front xs us ys zs e h =
    let a : length (xs ++ ys) ≡ length xs + length ys = length-append xs ys in
    let b : length (us ++ zs) ≡ length us + length zs = length-append us zs in
    let c : length (xs ++ ys) ≡ length (us ++ zs) = ap length e in
    let d : length ys ≡ length zs = ap length h in
    let n : length xs ≡ length us = omega arith in
    sym (front_of xs ys) ∙ (λ i. take (n i) (e i)) ∙ front_of us zs

pub commands_determine : CommandsDetermineSettings
commands_determine s p a b h =
    let o : Exports = exports_of p in
    let taken : List ℕ → List Command = λ c. commands_in (events p c) in
    let same : commands_in (events p a) ≡ commands_in (events p b) =
    same_front (commands_in (events p a)) (commands_in (events p b)) (run_state_of p a).commands (run_state_of p b).commands
    (taken_and_left p.functions (start p) a ∙ sym (taken_and_left p.functions (start p) b)) h in
    by_commands o (absent_session o) (filter (is_own s) (events p a))
    ∙ ap (set_by (settings_in (absent_session o))) (own_in s (events p a) ∙ ap (filter (λ c. bytes_eq s (session_of c))) same ∙ sym (own_in s (events p b)))
    ∙ sym (by_commands o (absent_session o) (filter (is_own s) (events p b)))
