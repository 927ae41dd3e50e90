-- What refused commands, other commands and events leave as it is.
use Rattle.std.proofs.Common.{◌≡◌, ℕ, List, [], Bool, true, false, if◌then◌else◌, refl, ap, ◌∙◌, Option, Some, None, Ok, Err}
use Rattle.def_term.specs.Tree.{Tree, tuple, none, more}
use Rattle.def_term.specs.Names.{word}
use Rattle.def_term.specs.Order.{same}
use Rattle.def_script.specs.Program.{Command, create, destroy, set_processes, set_function, set_send, set_receive}
use Rattle.def_node.specs.Event.{Event, called, returned, raised, spawned, exited, getting_linked}
use Rattle.def_spec.specs.Flags.{Flags, flags_listed}
use Rattle.def_spec.specs.Expressions.{Effect, for_calls, for_sends, for_receives}
use Rattle.def_spec.specs.Reading.{SpecFault, badarg, unsupported, Reads}
use Rattle.def_session.specs.Settings.{FunctionPattern, Setting, setting_of, trace_pattern_of, options_of}
use Rattle.def_session.specs.State.{Phase, absent, live, destroyed, MarkKind, Session}
use Rattle.def_script.specs.Exports.{Exports}
use Rattle.def_session.specs.Session.{inherit, effects_of, all_affected, mark_asked, mark_frame, finish, reported_for, reported_in}
use Rattle.def_session.specs.Messages.{process_of}
use Rattle.def_session.specs.Commands.{number_term, refuse, fault_term, Procs, one_process, existing, new_processes, all_processes, procs_of, how_of, flags_set, flags_set_if, function_set, function_set_if, send_set, receive_set, done_live, done_absent, done_destroyed, done_in}
use Rattle.def_term.specs.Alive.{is_alive}
use Rattle.def_session.specs.Laws.{is_about_functions, RefusedChangesNothing, OtherCommandsKeepSettings, EventsKeepSettings}

-- ---- what is refused

-- a count is no fault
no_fault : (P : Type 0) (n : ℕ) (e : SpecFault) → number_term n ≡ fault_term e → P
no_fault P n badarg h = cc
no_fault P n (unsupported s) h = cc

abbrev first_of : Tree → Tree
first_of (tuple (more t ts)) = t
first_of t = t

both_ways : (P : Type 0) → true ≡ false → P
both_ways P h = cc

-- nor is `true`, nor {session,Name}
true_no_fault : (P : Type 0) (e : SpecFault) → word "true" ≡ fault_term e → P
true_no_fault P badarg h = both_ways P (ap (λ t. same (first_of t) (word "true")) h)
true_no_fault P (unsupported s) h = both_ways P (ap (λ t. same (first_of t) (word "true")) h)

session_no_fault : (P : Type 0) (t : Tree) (e : SpecFault) → tuple (more (word "session") (more t none)) ≡ fault_term e → P
session_no_fault P t badarg h = both_ways P (ap (λ u. same (first_of u) (word "session")) h)
session_no_fault P t (unsupported s) h = both_ways P (ap (λ u. same (first_of u) (word "session")) h)

pid_kept : (b : Bool) (s t : Session) (e : SpecFault) → (if b then (t, number_term 1) else refuse s).1 ≡ fault_term e → (if b then (t, number_term 1) else refuse s).0 ≡ s
pid_kept true s t e h = no_fault (t ≡ s) 1 e h
pid_kept false s t e h = refl

flags_kept : (s : Session) (ps : Procs) (on : Bool) (f : Flags) (e : SpecFault) → (flags_set s ps on f).1 ≡ fault_term e → (flags_set s ps on f).0 ≡ s
flags_kept s (one_process n) on f e h = pid_kept (is_alive s.alive n) s _ e h
flags_kept s existing on f e h = no_fault _ _ e h
flags_kept s new_processes on f e h = no_fault _ _ e h
flags_kept s all_processes on f e h = no_fault _ _ e h

flags_if_kept : (s : Session) (ps : Option Procs) (on : Option Bool) (f : Option Flags) (e : SpecFault) → (flags_set_if s ps on f).1 ≡ fault_term e → (flags_set_if s ps on f).0 ≡ s
flags_if_kept s None on f e h = refl
flags_if_kept s (Some ps) None f e h = refl
flags_if_kept s (Some ps) (Some on) None e h = refl
flags_if_kept s (Some ps) (Some on) (Some f) e h = flags_kept s ps on f e h

set_kept : (o : Exports) (s : Session) (k : FunctionPattern) (local : Bool) (r : Reads Setting) (e : SpecFault) → (function_set o s k local r).1 ≡ fault_term e → (function_set o s k local r).0 ≡ s
set_kept o s k local (Err x) e h = refl
set_kept o s k local (Ok x) e h = no_fault _ _ e h

set_if_kept : (o : Exports) (s : Session) (k : Option FunctionPattern) (local : Option Bool) (spec : Tree) (e : SpecFault) → (function_set_if o s k local spec).1 ≡ fault_term e → (function_set_if o s k local spec).0 ≡ s
set_if_kept o s None local spec e h = refl
set_if_kept o s (Some k) None spec e h = refl
set_if_kept o s (Some k) (Some local) spec e h = set_kept o s k local (setting_of for_calls spec) e h

send_kept : (s : Session) (r : Reads Setting) (e : SpecFault) → (send_set s r).1 ≡ fault_term e → (send_set s r).0 ≡ s
send_kept s (Err x) e h = refl
send_kept s (Ok x) e h = no_fault _ _ e h

receive_kept : (s : Session) (r : Reads Setting) (e : SpecFault) → (receive_set s r).1 ≡ fault_term e → (receive_set s r).0 ≡ s
receive_kept s (Err x) e h = refl
receive_kept s (Ok x) e h = no_fault _ _ e h

live_kept : (o : Exports) (s : Session) (c : Command) (e : SpecFault) → (done_live o s c).1 ≡ fault_term e → (done_live o s c).0 ≡ s
live_kept o s (create name tracer) e h = refl
live_kept o s (destroy name) e h = true_no_fault _ e h
live_kept o s (set_processes name procs how flags) e h = flags_if_kept s (procs_of procs) (how_of how) (flags_listed flags) e h
live_kept o s (set_function name mfa spec options) e h = set_if_kept o s (trace_pattern_of mfa) (options_of options) spec e h
live_kept o s (set_send name spec) e h = send_kept s (setting_of for_sends spec) e h
live_kept o s (set_receive name spec) e h = receive_kept s (setting_of for_receives spec) e h

absent_kept : (s : Session) (c : Command) (e : SpecFault) → (done_absent s c).1 ≡ fault_term e → (done_absent s c).0 ≡ s
absent_kept s (create name tracer) e h = session_no_fault _ _ e h
absent_kept s _ e h = refl

destroyed_kept : (s : Session) (c : Command) → (done_destroyed s c).0 ≡ s
destroyed_kept s (destroy name) = refl
destroyed_kept s _ = refl

kept_in : (p : Phase) (o : Exports) (s : Session) (c : Command) (e : SpecFault) → (done_in p o s c).1 ≡ fault_term e → (done_in p o s c).0 ≡ s
kept_in absent o s c e h = absent_kept s c e h
kept_in live o s c e h = live_kept o s c e h
kept_in destroyed o s c e h = destroyed_kept s c

pub refused_changes_nothing : RefusedChangesNothing
refused_changes_nothing o s c e h = kept_in s.phase o s c e h

-- ---- the accepted function commands, after other commands

pid_functions : (b : Bool) (s t : Session) → t.functions ≡ s.functions → (if b then (t, number_term 1) else refuse s).0.functions ≡ s.functions
pid_functions true s t h = h
pid_functions false s t h = refl

flags_functions : (s : Session) (ps : Procs) (on : Bool) (f : Flags) → (flags_set s ps on f).0.functions ≡ s.functions
flags_functions s (one_process n) on f = pid_functions (is_alive s.alive n) s _ refl
flags_functions s existing on f = refl
flags_functions s new_processes on f = refl
flags_functions s all_processes on f = refl

flags_if_functions : (s : Session) (ps : Option Procs) (on : Option Bool) (f : Option Flags) → (flags_set_if s ps on f).0.functions ≡ s.functions
flags_if_functions s None on f = refl
flags_if_functions s (Some ps) None f = refl
flags_if_functions s (Some ps) (Some on) None = refl
flags_if_functions s (Some ps) (Some on) (Some f) = flags_functions s ps on f

send_functions : (s : Session) (r : Reads Setting) → (send_set s r).0.functions ≡ s.functions
send_functions s (Err x) = refl
send_functions s (Ok x) = refl

receive_functions : (s : Session) (r : Reads Setting) → (receive_set s r).0.functions ≡ s.functions
receive_functions s (Err x) = refl
receive_functions s (Ok x) = refl

live_functions : (o : Exports) (s : Session) (c : Command) → is_about_functions c ≡ false → (done_live o s c).0.functions ≡ s.functions
live_functions o s (create name tracer) h = refl
live_functions o s (destroy name) h = both_ways _ h
live_functions o s (set_processes name procs how flags) h = flags_if_functions s (procs_of procs) (how_of how) (flags_listed flags)
live_functions o s (set_function name mfa spec options) h = both_ways _ h
live_functions o s (set_send name spec) h = send_functions s (setting_of for_sends spec)
live_functions o s (set_receive name spec) h = receive_functions s (setting_of for_receives spec)

absent_functions : (s : Session) (c : Command) → (done_absent s c).0.functions ≡ s.functions
absent_functions s (create name tracer) = refl
absent_functions s _ = refl

functions_in : (p : Phase) (o : Exports) (s : Session) (c : Command) → is_about_functions c ≡ false → (done_in p o s c).0.functions ≡ s.functions
functions_in absent o s c h = absent_functions s c
functions_in live o s c h = live_functions o s c h
functions_in destroyed o s c h = ap (λ t. t.functions) (destroyed_kept s c)

pub other_commands_keep_settings : OtherCommandsKeepSettings
other_commands_keep_settings o s c h = functions_in s.phase o s c h

-- ---- and after events

marked_functions : (s : Session) (p depth : ℕ) (k : Option MarkKind) → (mark_frame s p depth k).functions ≡ s.functions
marked_functions s p depth None = refl
marked_functions s p depth (Some k) = refl

finished_functions : (s : Session) (e : Event) (es : List Effect) → (finish s e es).functions ≡ s.functions
finished_functions s (called p c) es = marked_functions s p c.depth (mark_asked es)
finished_functions s (returned p f t depth) es = refl
finished_functions s (raised p f c t depth) es = refl
finished_functions s (exited p r) es = refl
finished_functions s _ es = refl

told_functions : (s : Session) (e : Event) (r : Option (List Effect)) → (reported_for s e r).0.functions ≡ s.functions
told_functions s e None = finished_functions s e []
told_functions s e (Some es) = finished_functions (all_affected (process_of e) s es) e es

inherited_functions : (s : Session) (e : Event) → (inherit s e).functions ≡ s.functions
inherited_functions s (spawned p parent f args) = refl
inherited_functions s (getting_linked p q) = refl
inherited_functions s _ = refl

told_in_functions : (p : Phase) (s : Session) (e : Event) → (reported_in p s e).0.functions ≡ s.functions
told_in_functions absent s e = refl
told_in_functions destroyed s e = refl
told_in_functions live s e = told_functions (inherit s e) e (effects_of (inherit s e) e) ∙ inherited_functions s e

pub events_keep_settings : EventsKeepSettings
events_keep_settings s e = told_in_functions s.phase s e
