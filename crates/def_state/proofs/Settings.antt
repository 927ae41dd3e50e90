-- What is written of settings is what calls, sends and receives are evaluated with.
use Rattle.std.proofs.Common.{◌≡◌, ◌∙◌, ℕ, Bool, true, false, ◌||◌, if◌then◌else◌, List, [], ◌∷◌, Option, Some, None, Ok, Err, refl, ap}
use Rattle.def_term.specs.Alive.{is_alive}
use Rattle.def_term.specs.Tree.{Tree}
use Rattle.def_script.specs.Exports.{Exports}
use Rattle.def_script.specs.Program.{Command, create, destroy, set_processes, set_function, set_send, set_receive}
use Rattle.def_node.specs.Event.{Event, Call, called, returned, raised, spawned, exited, getting_linked}
use Rattle.def_spec.specs.Flags.{Flags, flags_listed}
use Rattle.def_spec.specs.Expressions.{Effect, for_calls, for_sends, for_receives}
use Rattle.def_spec.specs.Reading.{Reads}
use Rattle.def_session.specs.Settings.{FunctionPattern, Setting, off, FunctionSetting, setting_of, trace_pattern_of, options_of, has_among, setting_for}
use Rattle.def_session.specs.State.{Phase, absent, live, destroyed, MarkKind, Session, absent_session}
use Rattle.def_session.specs.Session.{inherit, effects_of, all_affected, mark_asked, mark_frame, finish, reported_for, reported_in, event_reported}
use Rattle.def_session.specs.Messages.{process_of}
use Rattle.def_session.specs.Commands.{number_term, refuse, Procs, one_process, existing, new_processes, all_processes, procs_of, how_of, flags_set, flags_set_if, function_set, function_set_if, send_set, receive_set, done_live, done_absent, done_in, command_done}
use Rattle.def_session.proofs.Life.{event_keeps_the_phase}
use Rattle.def_run.specs.Run.{HistoryItem, event_item, command_item}
use Rattle.def_run.specs.View.{View}
use Rattle.def_run.specs.Listing.{session_after}
use Rattle.def_run.proofs.DestroyedSessions.{still_destroyed}
use Rattle.def_state.specs.SettingTerms.{SettingTerm, FunctionTerm, commands_among, after_creation, or_else, newest_from, newest, setting_term_by, send_term_of, receive_term_of, function_term_for, function_term_by, term_among, function_term_to}
use Rattle.def_state.specs.Laws.{setting_by, setting_or_plain, FunctionTermsAreTheSettings, OtherTermsAreTheSettings}

-- ---- the settings of a session

-- those of functions, of sends and of receives
abbrev Settings : Type 0
Settings = List FunctionSetting × Setting × Setting

abbrev settings_in : Session → Settings
settings_in s = (s.functions, s.sending, s.receiving)

-- an event leaves them
marked : (s : Session) (p depth : ℕ) (k : Option MarkKind) → settings_in (mark_frame s p depth k) ≡ settings_in s
marked s p depth None = refl
marked s p depth (Some k) = refl

finished : (s : Session) (e : Event) (es : List Effect) → settings_in (finish s e es) ≡ settings_in s
finished s (called p c) es = marked s p c.depth (mark_asked es)
finished s (returned p f t depth) es = refl
finished s (raised p f c t depth) es = refl
finished s (exited p r) es = refl
finished s _ es = refl

reported : (s : Session) (e : Event) (r : Option (List Effect)) → settings_in (reported_for s e r).0 ≡ settings_in s
reported s e None = finished s e []
reported s e (Some es) = finished (all_affected (process_of e) s es) e es

inherited : (s : Session) (e : Event) → settings_in (inherit s e) ≡ settings_in s
inherited s (spawned p parent f args) = refl
inherited s (getting_linked p q) = refl
inherited s _ = refl

reported_by_phase : (p : Phase) (s : Session) (e : Event) → settings_in (reported_in p s e).0 ≡ settings_in s
reported_by_phase absent s e = refl
reported_by_phase destroyed s e = refl
reported_by_phase live s e = reported (inherit s e) e (effects_of (inherit s e) e) ∙ inherited s e

event_keeps : (s : Session) (e : Event) → settings_in (event_reported s e).0 ≡ settings_in s
event_keeps s e = reported_by_phase s.phase s e

-- ---- a command to a live session

-- flags are set, and the settings stay
pid_set : (b : Bool) (s t : Session) → settings_in t ≡ settings_in s → settings_in (if b then (t, number_term 1) else refuse s).0 ≡ settings_in s
pid_set true s t h = h
pid_set false s t h = refl

flags_keep : (s : Session) (ps : Procs) (on : Bool) (f : Flags) → settings_in (flags_set s ps on f).0 ≡ settings_in s
flags_keep s (one_process n) on f = pid_set (is_alive s.alive n) s _ refl
flags_keep s existing on f = refl
flags_keep s new_processes on f = refl
flags_keep s all_processes on f = refl

flags_if_keep : (s : Session) (ps : Option Procs) (on : Option Bool) (f : Option Flags) → settings_in (flags_set_if s ps on f).0 ≡ settings_in s
flags_if_keep s None on f = refl
flags_if_keep s (Some ps) None f = refl
flags_if_keep s (Some ps) (Some on) None = refl
flags_if_keep s (Some ps) (Some on) (Some f) = flags_keep s ps on f

-- the settings of the terms that stand for them, where a call is made
record AreFor (c : Call) (s : Session) (f : Option FunctionTerm) (sends receives : Option SettingTerm) : Type 0 where
  pub functions : setting_for s.functions c ≡ setting_by f c
  pub sending : s.sending ≡ setting_or_plain sends
  pub receiving : s.receiving ≡ setting_or_plain receives

moved_to : (c : Call) (s t : Session) (f : Option FunctionTerm) (sends receives : Option SettingTerm) → settings_in t ≡ settings_in s → AreFor c s f sends receives → AreFor c t f sends receives
moved_to c s t f sends receives e h = record {
  functions = ap (λ k. setting_for k.0 c) e ∙ h.functions;
  sending = ap (λ k. k.1) e ∙ h.sending;
  receiving = ap (λ k. k.2) e ∙ h.receiving;
}

-- with a newer function command
module _ (o : Exports) (s : Session) (c : Call) (f : Option FunctionTerm) (sends receives : Option SettingTerm) (h : AreFor c s f sends receives) where
  covers : (k : FunctionSetting) (t : Tree) (b : Bool)
      → (if b then (if k.local || c.named then k.setting else off) else setting_for s.functions c) ≡ setting_by (or_else (if b then Some (k, t) else None) f) c
  covers k t true = refl
  covers k t false = h.functions

  function_read : (p : FunctionPattern) (local : Bool) (t : Tree) (r : Reads Setting)
      → AreFor c (function_set o s p local r).0 (or_else (term_among c.mfa c.exported (function_term_for p local (setting_term_by t r))) f) sends receives
  function_read p local t (Err e) = h
  function_read p local t (Ok x) =
      let k : FunctionSetting = record { covered = p; setting = x; local = local } in
      record { functions = covers k t (has_among k c.mfa c.exported); sending = h.sending; receiving = h.receiving }

  function_given : (p : Option FunctionPattern) (local : Option Bool) (t : Tree)
      → AreFor c (function_set_if o s p local t).0 (or_else (term_among c.mfa c.exported (function_term_by p local t)) f) sends receives
  function_given None local t = h
  function_given (Some p) None t = h
  function_given (Some p) (Some local) t = function_read p local t (setting_of for_calls t)

  send_read : (t : Tree) (r : Reads Setting) → AreFor c (send_set s r).0 f (or_else (setting_term_by t r) sends) receives
  send_read t (Err e) = h
  send_read t (Ok x) = record { functions = h.functions; sending = refl; receiving = h.receiving }

  receive_read : (t : Tree) (r : Reads Setting) → AreFor c (receive_set s r).0 f sends (or_else (setting_term_by t r) receives)
  receive_read t (Err e) = h
  receive_read t (Ok x) = record { functions = h.functions; sending = h.sending; receiving = refl }

-- it stays live with the terms of one more command, or is destroyed
abbrev Stays : Call → Session → Command → Option FunctionTerm → Option SettingTerm → Option SettingTerm → Type 0
Stays c t k f sends receives = (t.phase ≡ live) × AreFor c t (or_else (function_term_to c.mfa c.exported k) f) (or_else (send_term_of k) sends) (or_else (receive_term_of k) receives)

-- its phase, after a command that isn't its end
function_phase : (o : Exports) (s : Session) (p : FunctionPattern) (local : Bool) (r : Reads Setting) → (function_set o s p local r).0.phase ≡ s.phase
function_phase o s p local (Ok x) = refl
function_phase o s p local (Err e) = refl

function_if_phase : (o : Exports) (s : Session) (p : Option FunctionPattern) (local : Option Bool) (t : Tree) → (function_set_if o s p local t).0.phase ≡ s.phase
function_if_phase o s None local t = refl
function_if_phase o s (Some p) None t = refl
function_if_phase o s (Some p) (Some local) t = function_phase o s p local (setting_of for_calls t)

send_phase : (s : Session) (r : Reads Setting) → (send_set s r).0.phase ≡ s.phase
send_phase s (Ok x) = refl
send_phase s (Err e) = refl

receive_phase : (s : Session) (r : Reads Setting) → (receive_set s r).0.phase ≡ s.phase
receive_phase s (Ok x) = refl
receive_phase s (Err e) = refl

pid_phase : (b : Bool) (s t : Session) → t.phase ≡ s.phase → (if b then (t, number_term 1) else refuse s).0.phase ≡ s.phase
pid_phase true s t h = h
pid_phase false s t h = refl

flags_phase : (s : Session) (ps : Procs) (on : Bool) (f : Flags) → (flags_set s ps on f).0.phase ≡ s.phase
flags_phase s (one_process n) on f = pid_phase (is_alive s.alive n) s _ refl
flags_phase s existing on f = refl
flags_phase s new_processes on f = refl
flags_phase s all_processes on f = refl

flags_if_phase : (s : Session) (ps : Option Procs) (on : Option Bool) (f : Option Flags) → (flags_set_if s ps on f).0.phase ≡ s.phase
flags_if_phase s None on f = refl
flags_if_phase s (Some ps) None f = refl
flags_if_phase s (Some ps) (Some on) None = refl
flags_if_phase s (Some ps) (Some on) (Some f) = flags_phase s ps on f

not_both : {P : Type 0} (p : Phase) → p ≡ destroyed → p ≡ live → P
not_both absent e l = cc
not_both live e l = cc
not_both destroyed e l = cc

absent_or_live : {P : Type 0} (p : Phase) → p ≡ absent → p ≡ live → P
absent_or_live absent e l = cc
absent_or_live live e l = cc
absent_or_live destroyed e l = cc

module _ (o : Exports) (c : Call) where
  -- what follows where a session is live
  abbrev Follows : Session → List HistoryItem → Option FunctionTerm → Option SettingTerm → Option SettingTerm → Type 0
  Follows s items f sends receives =
      (session_after o s items).phase ≡ live
      → AreFor c (session_after o s items) (newest_from (function_term_to c.mfa c.exported) f (commands_among items)) (newest_from send_term_of sends (commands_among items)) (newest_from receive_term_of receives (commands_among items))

  -- one command more, where it is known what follows
  module _ (s : Session) (items : List HistoryItem) (f : Option FunctionTerm) (sends receives : Option SettingTerm) (h : s.phase ≡ live) (a : AreFor c s f sends receives)
      (next : (t : Session) (g : Option FunctionTerm) (x y : Option SettingTerm) → t.phase ≡ live → AreFor c t g x y → Follows t items g x y) where
    with_command : (k : Command) (t : Session) → (command_done o s k).0 ≡ t → Stays c t k f sends receives → Follows s (command_item k ∷ items) f sends receives
    with_command k t e d =
        next (command_done o s k).0 (or_else (function_term_to c.mfa c.exported k) f) (or_else (send_term_of k) sends) (or_else (receive_term_of k) receives) (ap (λ t. t.phase) e ∙ d.0)
        (moved_to c t (command_done o s k).0 (or_else (function_term_to c.mfa c.exported k) f) (or_else (send_term_of k) sends) (or_else (receive_term_of k) receives) (ap settings_in e) d.1)

    after_command : (k : Command) → (command_done o s k).0 ≡ (done_live o s k).0 → Follows s (command_item k ∷ items) f sends receives
    after_command (create name tracer) e = with_command (create name tracer) s e (h, a)
    after_command (destroy name) e =
        λ l. not_both (session_after o (command_done o s (destroy name)).0 items).phase (still_destroyed o (command_done o s (destroy name)).0 items (ap (λ t. t.phase) e)) l
    after_command (set_processes name procs how flags) e =
        let t : Session = (flags_set_if s (procs_of procs) (how_of how) (flags_listed flags)).0 in
        with_command (set_processes name procs how flags) t e
        (flags_if_phase s (procs_of procs) (how_of how) (flags_listed flags) ∙ h, moved_to c s t f sends receives (flags_if_keep s (procs_of procs) (how_of how) (flags_listed flags)) a)
    after_command (set_function name mfa spec options) e =
        with_command (set_function name mfa spec options) (function_set_if o s (trace_pattern_of mfa) (options_of options) spec).0 e
        (function_if_phase o s (trace_pattern_of mfa) (options_of options) spec ∙ h, function_given o s c f sends receives a (trace_pattern_of mfa) (options_of options) spec)
    after_command (set_send name spec) e =
        with_command (set_send name spec) (send_set s (setting_of for_sends spec)).0 e
        (send_phase s (setting_of for_sends spec) ∙ h, send_read o s c f sends receives a spec (setting_of for_sends spec))
    after_command (set_receive name spec) e =
        with_command (set_receive name spec) (receive_set s (setting_of for_receives spec)).0 e
        (receive_phase s (setting_of for_receives spec) ∙ h, receive_read o s c f sends receives a spec (setting_of for_receives spec))

  in_live : (s : Session) (items : List HistoryItem) (f : Option FunctionTerm) (sends receives : Option SettingTerm) → s.phase ≡ live → AreFor c s f sends receives → Follows s items f sends receives
  in_live s [] f sends receives h a = λ l. a
  in_live s (event_item e ∷ items) f sends receives h a = in_live (event_reported s e).0 items f sends receives (event_keeps_the_phase s e ∙ h) (moved_to c s (event_reported s e).0 f sends receives (event_keeps s e) a)
  in_live s (command_item k ∷ items) f sends receives h a =
      after_command s items f sends receives h a (λ t g x y l b. in_live t items g x y l b) k (ap (λ p. (done_in p o s k).0) h)

  -- what follows before the creation
  abbrev FollowsAbsent : Session → List HistoryItem → Type 0
  FollowsAbsent s items =
      (session_after o s items).phase ≡ live
      → AreFor c (session_after o s items) (newest (function_term_to c.mfa c.exported) (after_creation (commands_among items))) (newest send_term_of (after_creation (commands_among items))) (newest receive_term_of (after_creation (commands_among items)))

  -- one command more, where it is known what follows
  module _ (s : Session) (items : List HistoryItem) (h : s.phase ≡ absent) (a : AreFor c s None None None)
      (next : (t : Session) → t.phase ≡ absent → AreFor c t None None None → FollowsAbsent t items) where
    refused : (k : Command) → (command_done o s k).0 ≡ s → FollowsAbsent (command_done o s k).0 items
    refused k e = next (command_done o s k).0 (ap (λ t. t.phase) e ∙ h) (moved_to c s (command_done o s k).0 None None None (ap settings_in e) a)

    before_creation : (k : Command) → (command_done o s k).0 ≡ (done_absent s k).0 → FollowsAbsent s (command_item k ∷ items)
    before_creation (create name tracer) e = in_live (command_done o s (create name tracer)).0 items None None None (ap (λ t. t.phase) e) (moved_to c s (command_done o s (create name tracer)).0 None None None (ap settings_in e) a)
    before_creation (destroy name) e = refused (destroy name) e
    before_creation (set_processes name procs how flags) e = refused (set_processes name procs how flags) e
    before_creation (set_function name mfa spec options) e = refused (set_function name mfa spec options) e
    before_creation (set_send name spec) e = refused (set_send name spec) e
    before_creation (set_receive name spec) e = refused (set_receive name spec) e

  in_absent : (s : Session) (items : List HistoryItem) → s.phase ≡ absent → AreFor c s None None None → FollowsAbsent s items
  in_absent s [] h a = λ l. absent_or_live s.phase h l
  in_absent s (event_item e ∷ items) h a = in_absent (event_reported s e).0 items (event_keeps_the_phase s e ∙ h) (moved_to c s (event_reported s e).0 None None None (event_keeps s e) a)
  in_absent s (command_item k ∷ items) h a = before_creation s items h a (λ t l b. in_absent t items l b) k (ap (λ p. (done_in p o s k).0) h)

of_view : (v : View) (c : Call) → FollowsAbsent v.opening c (absent_session v.opening) v.items
of_view v c = in_absent v.opening c (absent_session v.opening) v.items refl (record { functions = refl; sending = refl; receiving = refl })

pub function_terms : FunctionTermsAreTheSettings
function_terms v c h = (of_view v c h).functions

-- a call, of which nothing is asked
abbrev no_call : Call
no_call = record { mfa = record { module_name = []; function_name = []; arity = 0 }; args = []; named = true; exported = true; caller = None; depth = 0 }

pub other_terms : OtherTermsAreTheSettings
other_terms v h = ((of_view v no_call h).sending, (of_view v no_call h).receiving)
