-- What a command does to a session, in the model and on a node.
use Rattle.std.proofs.Common.{◌≡◌, ◌∙◌, ℕ, Bool, true, false, not, ◌&&◌, if◌then◌else◌, List, [], ◌∷◌, length, Option, Some, None, Ok, Err, refl, sym, ap, ap₂, subst}
use Rattle.std.specs.List.{filter}
use Rattle.std.specs.Option.{IsSomeAnd, option_map}
use Rattle.def_term.specs.Names.{Name, Mfa}
use Rattle.def_term.specs.Tree.{Tree}
use Rattle.def_script.specs.Exports.{Exports, visible}
use Rattle.def_script.specs.Program.{Command, set_processes, set_function}
use Rattle.def_spec.specs.Expressions.{for_calls}
use Rattle.def_spec.specs.Flags.{Flags, no_flags, flags_listed}
use Rattle.def_spec.specs.Reading.{Reads}
use Rattle.def_session.specs.Commands.{CommandResult, Procs, refuse, number_term, matching_count, procs_of, how_of, function_set, function_set_if, done_in, command_done}
use Rattle.def_session.specs.Settings.{FunctionPattern, Setting, off, plain, by, trace_pattern_of, options_of, setting_of, has_among}
use Rattle.def_session.specs.State.{Phase, absent, live, destroyed, Session}
use Rattle.def_explain.specs.CommandReasons.{any_setting}
use Rattle.def_explain.specs.CommandDifferences.{is_internal_and_set}
use Rattle.def_explain.specs.Differences.{has_none}
use Rattle.def_running_node.specs.NodeSessions.{with_new_flags}
use Rattle.def_running_node.specs.NodeReplies.{has_new_processes, has_existing, process_reply, processes_by, with_disabled, own_kind_disabled, internal_disabled, before_setting, function_by, function_reply, command_once, node_command_live, node_command_in, node_command}
use Rattle.tn_flags.specs.Views.{command_of}
use Rattle.tn_flags.specs.declared.command.Command as commands
use Rattle.tn_flags.specs.declared.command.Command.TheVariants as code
use Rattle.tn_script.specs.Views.{functions_of}
use Rattle.tn_script.specs.declared.form.Function.{Function}
use Rattle.tn_index.specs.Views.{function_pattern_seen}
use Rattle.tn_session.specs.Looks.{is_live}
use Rattle.tn_session.specs.Sessions.{SessionValue, value_in, next_session, exports_in, with_new_process_flags}
use Rattle.tn_session.specs.declared.session.Session as sessions
use Rattle.tn_running_node.specs.Replies.{ChangeView, change_of_parts, on_where_read, function_change_seen, Changes, IsModelDone, IsDoneLive, IsProcessDoneThere, function_set_by, IsFunctionSet, IsFunctionDoneThere}
use Rattle.tn_running_node.specs.Replies.{with_state, LiveBecomes, own_kind_from, internal_from, match_count_seen}
use Rattle.tn_running_node.specs.declared.function_settings.FunctionChange.{FunctionChange}

-- ---- the model's

pub by_model : {A : Type 0} (old new : sessions.Session A) (c : Command) (t : Tree)
    → IsSomeAnd (value_in old) (λ (s : SessionValue). (n : ℕ) → next_session s (command_done (exports_in s n) s.state c) ≡ (value_in new, t))
    → (o : Exports) (v : SessionValue) → value_in old ≡ Some v → v.functions ≡ o.functions → next_session v (command_done o v.state c) ≡ (value_in new, t)
by_model old new c t done o v at same =
    let P : Option SessionValue → Type 0 = λ w. IsSomeAnd w (λ (s : SessionValue). (n : ℕ) → next_session s (command_done (exports_in s n) s.state c) ≡ (value_in new, t)) in
    let exports : List (Mfa × Bool) → Exports = λ fs. record { functions = fs; processes = o.processes } in
    ap (λ fs. next_session v (command_done (exports fs) v.state c)) (sym same) ∙ (subst P at done) o.processes

-- ---- by the phase

not_live_in : (o : Exports) (s : Session) (c : Command) (p : Phase) → false ≡ is_live p → node_command_in p o s c ≡ command_done o s c
not_live_in o s c absent e = refl
not_live_in o s c live e = absurd (cc)
not_live_in o s c destroyed e = refl

-- of one that isn't live
pub of_others : (o : Exports) (s : Session) (c : Command) → false ≡ is_live s.phase → node_command o s c ≡ command_done o s c
of_others o s c e = not_live_in o s c s.phase e

live_phase : (p : Phase) → true ≡ is_live p → p ≡ live
live_phase absent e = absurd (cc)
live_phase live e = refl
live_phase destroyed e = absurd (cc)

pub is_live_then : (s : Session) → true ≡ is_live s.phase → s.phase ≡ live
is_live_then s e = live_phase s.phase e

-- of a live one
pub of_live : (o : Exports) (s : Session) (c : Command) → s.phase ≡ live → node_command o s c ≡ node_command_live o s (command_once c)
of_live o s c e = ap (λ p. node_command_in p o s c) e

-- ---- flags

flags_state : (v : SessionValue) (b : Bool) → with_state v (if b then with_new_flags no_flags v.state else v.state) ≡ (if b then with_new_process_flags no_flags v else v)
flags_state v true = refl
flags_state v false = refl

-- by what is read of a command about flags
pub flags_done : (v : SessionValue) (r : Tree) (p : Option Procs) (h : Option Bool) (f : Option Flags) (procs : Procs) (on none : Bool)
    → Some procs ≡ p → Some on ≡ h → Some none ≡ option_map has_none f
    → next_session v (processes_by p h f (v.state, r))
    ≡ (Some (if has_new_processes procs && (not on && not none) then with_new_process_flags no_flags v else v), if has_existing procs && none then number_term 0 else r)
flags_done v r (Some p) (Some h) (Some f) procs on none a b d =
    let F : Procs → Bool → Bool → Option SessionValue × Tree =
    λ x y z. (Some (if has_new_processes x && (not y && not z) then with_new_process_flags no_flags v else v), if has_existing x && z then number_term 0 else r) in
    let procs_is : p ≡ procs = cc in
    let on_is : h ≡ on = cc in
    let none_is : has_none f ≡ none = cc in
    let so : next_session v (processes_by (Some p) (Some h) (Some f) (v.state, r)) ≡ F p h (has_none f) =
    ap (λ w. (Some w, process_reply p f r)) (flags_state v (has_new_processes p && (not h && not (has_none f)))) in
    so ∙ ap (λ x. F x h (has_none f)) procs_is ∙ ap (λ y. F procs y (has_none f)) on_is ∙ ap (λ z. F procs on z) none_is
flags_done v r None h f procs on none a b d = absurd (cc)
flags_done v r (Some p) None f procs on none a b d = absurd (cc)
flags_done v r (Some p) (Some h) None procs on none a b d = absurd (cc)

pub of_processes : {A : Type 0} (o : Exports) (v : SessionValue) (name : Name) (p h f : Tree) (mid new : sessions.Session A) (r t : Tree)
    → next_session v (command_done o v.state (set_processes name p h f)) ≡ (value_in mid, r) → IsProcessDoneThere p h f mid new r t
    → next_session v (node_command_live o v.state (set_processes name p h f)) ≡ (value_in new, t)
of_processes o v name p h f mid new r t model done =
    let k = command_done o v.state (set_processes name p h f) in
    ap (λ x. next_session v (processes_by (procs_of p) (how_of h) (flags_listed f) (k.0, x))) (ap (λ q. q.1) model) ∙ done (with_state v k.0) (sym (ap (λ q. q.0) model))

-- ---- settings of functions

-- the model's, by what is read
abbrev read_done : Exports → Session → Option FunctionPattern → Option Bool → Reads Setting → CommandResult
read_done o s (Some covered) (Some local) r = function_set o s covered local r
read_done o s _ _ r = refuse s

as_read : (o : Exports) (s : Session) (p : Option FunctionPattern) (q : Option Bool) (spec : Tree) → function_set_if o s p q spec ≡ read_done o s p q (setting_of for_calls spec)
as_read o s (Some covered) (Some local) spec = refl
as_read o s (Some covered) None spec = refl
as_read o s None q spec = refl

model_read : (o : Exports) (s : Session) (name : Name) (mfa spec options : Tree) → s.phase ≡ live
    → command_done o s (set_function name mfa spec options) ≡ read_done o s (trace_pattern_of mfa) (options_of options) (setting_of for_calls spec)
model_read o s name mfa spec options alive =
    ap (λ p. done_in p o s (set_function name mfa spec options)) alive ∙ as_read o s (trace_pattern_of mfa) (options_of options) spec

node_read : (o : Exports) (s : Session) (name : Name) (mfa spec options : Tree) → s.phase ≡ live
    → function_set_by o s (set_function name mfa spec options)
    ≡ function_by o s (trace_pattern_of mfa) (options_of options) (setting_of for_calls spec) (read_done o s (trace_pattern_of mfa) (options_of options) (setting_of for_calls spec))
node_read o s name mfa spec options alive =
    ap (λ k. function_by o s (trace_pattern_of mfa) (options_of options) (setting_of for_calls spec) k) (model_read o s name mfa spec options alive)

unread : (o : Exports) (s : Session) (p : Option FunctionPattern) (q : Option Bool) (r : Reads Setting) → change_of_parts p q (on_where_read r) ≡ None
    → function_by o s p q r (read_done o s p q r) ≡ read_done o s p q r
unread o s None q r e = refl
unread o s (Some covered) None r e = refl
unread o s (Some covered) (Some local) (Ok setting) e = absurd (cc)
unread o s (Some covered) (Some local) (Err f) e = refl

disables : (o : Exports) (s : Session) (p : Option FunctionPattern) (q : Option Bool) (r : Reads Setting) (x : ChangeView) → change_of_parts p q (on_where_read r) ≡ Some x → x.on ≡ false
    → function_by o s p q r (read_done o s p q r) ≡ (own_kind_disabled x.covered x.local o.functions s, number_term (matching_count o (any_setting x.covered x.local)))
disables o s None q r x e b = absurd (cc)
disables o s (Some covered) None r x e b = absurd (cc)
disables o s (Some covered) (Some local) (Err f) x e b = absurd (cc)
disables o s (Some covered) (Some local) (Ok off) x e b =
    let y : ChangeView = record { covered = covered; local = local; on = false } in
    let is : y ≡ x = cc in
    ap (λ (z : ChangeView). (own_kind_disabled z.covered z.local o.functions s, number_term (matching_count o (any_setting z.covered z.local)))) is
disables o s (Some covered) (Some local) (Ok plain) x e b =
    let y : ChangeView = record { covered = covered; local = local; on = true } in
    let is : y ≡ x = cc in
    let no : true ≡ false = ap (λ (z : ChangeView). z.on) is ∙ b in
    absurd (cc)
disables o s (Some covered) (Some local) (Ok (by k)) x e b =
    let y : ChangeView = record { covered = covered; local = local; on = true } in
    let is : y ≡ x = cc in
    let no : true ≡ false = ap (λ (z : ChangeView). z.on) is ∙ b in
    absurd (cc)

sets : (o : Exports) (s : Session) (p : Option FunctionPattern) (q : Option Bool) (r : Reads Setting) (x : ChangeView) → change_of_parts p q (on_where_read r) ≡ Some x → x.on ≡ true
    → function_by o s p q r (read_done o s p q r) ≡ read_done o (before_setting o s x.covered x.local) p q r
sets o s None q r x e b = absurd (cc)
sets o s (Some covered) None r x e b = absurd (cc)
sets o s (Some covered) (Some local) (Err f) x e b = absurd (cc)
sets o s (Some covered) (Some local) (Ok off) x e b =
    let y : ChangeView = record { covered = covered; local = local; on = false } in
    let is : y ≡ x = cc in
    let no : false ≡ true = ap (λ (z : ChangeView). z.on) is ∙ b in
    absurd (cc)
sets o s (Some covered) (Some local) (Ok plain) x e b =
    let y : ChangeView = record { covered = covered; local = local; on = true } in
    let is : y ≡ x = cc in
    ap (λ (z : ChangeView). read_done o (before_setting o s z.covered z.local) (Some covered) (Some local) (Ok plain)) is
sets o s (Some covered) (Some local) (Ok (by k)) x e b =
    let y : ChangeView = record { covered = covered; local = local; on = true } in
    let is : y ≡ x = cc in
    ap (λ (z : ChangeView). read_done o (before_setting o s z.covered z.local) (Some covered) (Some local) (Ok (by k))) is

-- a function command that isn't read
pub of_unread : (o : Exports) (s : Session) (c : Command) → Changes c None → s.phase ≡ live → function_set_by o s c ≡ command_done o s c
of_unread o s (set_function name mfa spec options) e alive =
    node_read o s name mfa spec options alive ∙ unread o s (trace_pattern_of mfa) (options_of options) (setting_of for_calls spec) e ∙ sym (model_read o s name mfa spec options alive)
of_unread o s c e alive = absurd e

-- one that disables
pub of_false : (o : Exports) (s : Session) (c : Command) (x : ChangeView) → Changes c (Some x) → x.on ≡ false → s.phase ≡ live
    → function_set_by o s c ≡ (own_kind_disabled x.covered x.local o.functions s, number_term (matching_count o (any_setting x.covered x.local)))
of_false o s (set_function name mfa spec options) x e b alive =
    node_read o s name mfa spec options alive ∙ disables o s (trace_pattern_of mfa) (options_of options) (setting_of for_calls spec) x e b
of_false o s c x e b alive = absurd e

phase_by : (b : Bool) (f : Mfa × Bool) (s : Session) → (if b then with_disabled true f s else s).phase ≡ s.phase
phase_by true f s = refl
phase_by false f s = refl

phase_left : (covered : FunctionPattern) (fs : List (Mfa × Bool)) (s : Session) → (internal_disabled covered fs s).phase ≡ s.phase
phase_left covered [] s = refl
phase_left covered (f ∷ fs) s = phase_left covered fs (if is_internal_and_set s covered f then with_disabled true f s else s) ∙ phase_by (is_internal_and_set s covered f) f s

phase_before : (o : Exports) (s : Session) (covered : FunctionPattern) (local : Bool) → (before_setting o s covered local).phase ≡ s.phase
phase_before o s covered true = refl
phase_before o s covered false = phase_left covered o.functions s

-- one that doesn't
pub of_true : (o : Exports) (s : Session) (c : Command) (x : ChangeView) → Changes c (Some x) → x.on ≡ true → s.phase ≡ live
    → function_set_by o s c ≡ command_done o (before_setting o s x.covered x.local) c
of_true o s (set_function name mfa spec options) x e b alive =
    node_read o s name mfa spec options alive
    ∙ sets o s (trace_pattern_of mfa) (options_of options) (setting_of for_calls spec) x e b
    ∙ sym (model_read o (before_setting o s x.covered x.local) name mfa spec options (phase_before o s x.covered x.local ∙ alive))
of_true o s c x e b alive = absurd e

-- ---- sessions

pub by_change : {A : Type 0} (functions : List (Function A)) (c : Command) (old new : sessions.Session A) (t : Tree) (x y : Option (FunctionChange A)) → x ≡ y
    → IsFunctionDoneThere functions c (option_map function_change_seen y) old new t → IsFunctionDoneThere functions c (option_map function_change_seen x) old new t
by_change {A} functions c old new t x y e done = λ changes. let P : Option (FunctionChange A) → Type 0 = λ z. Changes c (option_map function_change_seen z) in done (subst P e changes)

pub done_unread : {A : Type 0} (functions : List (Function A)) (c : Command) (old new : sessions.Session A) (t : Tree) → IsModelDone c old new t → IsFunctionDoneThere functions c None old new t
done_unread functions c old new t model = λ changes o v is alive. ap (next_session v) (of_unread o v.state c changes alive) ∙ model o v is.value is.same

pub done_false : {A : Type 0} (functions : List (Function A)) (c : Command) (old new : sessions.Session A) (t : Tree) (x : FunctionChange A) → x.on ≡ false
    → LiveBecomes (own_kind_from x.covered x.local functions 0) old new → t ≡ number_term (match_count_seen x.covered x.local functions) → IsFunctionDoneThere functions c (Some (function_change_seen x)) old new t
done_false functions c old new t x is_off becomes counted = λ changes o v is alive.
    let covered = function_pattern_seen x.covered in
    let F : List (Mfa × Bool) → Option SessionValue × Tree =
    λ fs. (Some (with_state v (own_kind_disabled covered x.local fs v.state)), number_term (length (filter (λ f. has_among (any_setting covered x.local) f.0 f.1) fs))) in
    let read : next_session v (function_set_by o v.state c) ≡ F o.functions = ap (next_session v) (of_false o v.state c (function_change_seen x) changes is_off alive) in
    read ∙ ap F is.program ∙ ap₂ (λ w u. (w, u)) (sym (becomes v is.value alive)) (sym counted)

pub done_local : {A : Type 0} (functions : List (Function A)) (c : Command) (old new : sessions.Session A) (t : Tree) (x : FunctionChange A) → x.on ≡ true → x.local ≡ true
    → IsModelDone c old new t → IsFunctionDoneThere functions c (Some (function_change_seen x)) old new t
done_local functions c old new t x on local model = λ changes o v is alive.
    let before = λ (b : Bool). command_done o (before_setting o v.state (function_pattern_seen x.covered) b) c in
    ap (next_session v) (of_true o v.state c (function_change_seen x) changes on alive ∙ ap before local) ∙ model o v is.value is.same

pub done_global : {A : Type 0} (functions : List (Function A)) (c : Command) (old mid new : sessions.Session A) (t : Tree) (x : FunctionChange A) → x.on ≡ true → x.local ≡ false
    → LiveBecomes (internal_from x.covered functions 0) old mid → IsModelDone c mid new t → IsFunctionDoneThere functions c (Some (function_change_seen x)) old new t
done_global functions c old mid new t x on global becomes model = λ changes o v is alive.
    let covered = function_pattern_seen x.covered in
    let before = λ (b : Bool). command_done o (before_setting o v.state covered b) c in
    let with_functions = λ (fs : List (Mfa × Bool)). command_done o (internal_disabled covered fs v.state) c in
    ap (next_session v) (of_true o v.state c (function_change_seen x) changes on alive ∙ ap before global ∙ ap with_functions is.program)
    ∙ model o (with_state v (internal_disabled covered (visible (functions_of functions)) v.state)) (becomes v is.value alive) is.same

-- with the reply, where the arity is none
pub done_function : {A : Type 0} (functions : List (Function A)) (c : Command) (old new : sessions.Session A) (r t : Tree) (name : Name) (mfa spec options : Tree) → c ≡ set_function name mfa spec options
    → IsFunctionSet functions c old new r → t ≡ function_reply mfa (options_of options) (setting_of for_calls spec) r → IsDoneLive functions c old new t
done_function functions c old new r t name mfa spec options e set replied = λ o v is alive.
    let F : Tree → Tree = function_reply mfa (options_of options) (setting_of for_calls spec) in
    let set_there : next_session v (function_set_by o v.state (set_function name mfa spec options)) ≡ (value_in new, r) =
    ap (λ k. next_session v (function_set_by o v.state k)) (sym e) ∙ set o v is alive in
    ap (λ k. next_session v (node_command_live o v.state k)) e ∙ ap (λ q. (q.0, F q.1)) set_there ∙ ap (λ u. (value_in new, u)) (sym replied)

pub done_processes : {A : Type 0} (functions : List (Function A)) (c : Command) (old mid new : sessions.Session A) (r t : Tree) (name : Name) (p h f : Tree) → c ≡ set_processes name p h f
    → IsModelDone c old mid r → IsProcessDoneThere p h f mid new r t → IsDoneLive functions c old new t
done_processes functions c old mid new r t name p h f e model done = λ o v is alive.
    let model_there = ap (λ k. next_session v (command_done o v.state k)) (sym e) ∙ model o v is.value is.same in
    ap (λ k. next_session v (node_command_live o v.state k)) e ∙ of_processes o v name p h f mid new r t model_there done

pub done_others : {A : Type 0} (functions : List (Function A)) (k : commands.Command A) (old new : sessions.Session A) (t : Tree)
    → ((s : _) (p h f : _) → k ≡ code.Process s p h f → ⊥) → ((s : _) (m x y : _) → k ≡ code.Function s m x y → ⊥) → IsModelDone (command_of k) old new t → IsDoneLive functions (command_of k) old new t
done_others functions (code.SessionCreate s x) old new t no_process no_function model = λ o v is alive. model o v is.value is.same
done_others functions (code.SessionDestroy s) old new t no_process no_function model = λ o v is alive. model o v is.value is.same
done_others functions (code.Process s p h f) old new t no_process no_function model = absurd (no_process s p h f refl)
done_others functions (code.Function s m x y) old new t no_process no_function model = absurd (no_function s m x y refl)
done_others functions (code.Send s x) old new t no_process no_function model = λ o v is alive. model o v is.value is.same
done_others functions (code.Recv s x) old new t no_process no_function model = λ o v is alive. model o v is.value is.same
