-- A session with no flag or setting by which a node can differ is still such a session after an event, or after a command that adds none; and a node does nothing otherwise at an event of it.
use Rattle.std.proofs.Common.{◌≡◌, ℕ, zero, suc, ◌-◌, Bool, true, false, not, List, [], ◌∷◌, ◌++◌, replicate, slice_get, slice_set, unwrap_or, Option, Some, None, option_to_list, Ok, Err, refl, sym, ap, ap₂, subst, ◌∙◌, if◌then◌else◌}
use Rattle.std.specs.List.{AllByRecursion}
use Rattle.std.proofs.lemmas.Bool.{or_parts, or_from, and_left}
use Rattle.def_term.specs.Tree.{Tree, pid}
use Rattle.def_term.specs.Names.{word}
use Rattle.def_term.specs.Alive.{FIRST_PID, PROCESSES, Alive, with_alive, is_alive}
use Rattle.def_script.specs.Program.{Command, create, destroy, set_processes, set_function, set_send, set_receive}
use Rattle.def_script.specs.Exports.{Exports}
use Rattle.def_spec.specs.Flags.{Flag, send_flag, receive_flag, call_flag, procs_flag, silent_flag, arity_flag, set_on_spawn, set_on_first_spawn, set_on_link, set_on_first_link, Flags, no_flags, only, union, without, flags_listed, given_and_kept, after_spawn, after_link}
use Rattle.def_spec.specs.Expressions.{for_calls, for_sends, for_receives, Effect}
use Rattle.def_spec.specs.Reading.{Reads}
use Rattle.def_node.specs.Event.{Event, sent, received, called, returned, raised, spawning, spawned, exited, linked, unlinked, getting_linked, getting_unlinked}
use Rattle.def_outlook.specs.Outlook.{Outlook}
use Rattle.def_session.specs.Settings.{FunctionPattern, Setting, setting_of, trace_pattern_of, options_of, setting_for}
use Rattle.def_session.specs.State.{Phase, absent, live, destroyed, MarkKind, Mark, Session, new_session, flags_at, with_flags, marks_at, with_marks}
use Rattle.def_session.specs.Messages.{process_of}
use Rattle.def_session.specs.Session.{inherit, context, effects_of, where_marked, all_affected, mark_asked, mark_frame, finish, reported_for, reported_in, event_reported}
use Rattle.def_session.specs.Commands.{Procs, one_process, existing, new_processes, all_processes, procs_of, how_of, changed_flags, all_changed, existing_changed, new_changed, number_term, refuse, flags_set, flags_set_if, function_set, function_set_if, send_set, receive_set, done_live, done_absent, done_destroyed, done_in, command_done}
use Rattle.def_explain.specs.Differences.{Difference, inherits_alone, hands_on, difference_where, differences_if, setting_differences, evaluation_differences, event_difference}
use Rattle.def_explain.specs.Accounts.{differences_in_lines, event_lines_in, event_lines}
use Rattle.def_explain.specs.NodeCommands.{setting_can_differ, read_can_differ, flags_can_differ, listed_can_differ, command_can_differ}
use Rattle.def_explain.proofs.DifferenceLines.{lines_tell_the_difference}
use Rattle.def_explain.proofs.NodeBodies.{HasPlainEffects, plain_effects_of_setting, flags_same_after, has_send, has_receive, has_call, no_difference_by_setting, FunctionsArePlain, plain_setting_for}

-- ---- elements of lists

-- what holds of each element holds of what is read, and is still so of each after a write or a filter
module _ {X : Type 0} (P : X → Type 0) where
  each-at : (xs : List X) (i : ℕ) (d : X) → AllByRecursion P xs → P d → P (unwrap_or (slice_get xs i) d)
  each-at [] i d h k = k
  each-at (x ∷ xs) zero d h k = h.0
  each-at (x ∷ xs) (suc i) d h k = each-at xs i d h.1 k

  each-with : (xs : List X) (i : ℕ) (x : X) → P x → AllByRecursion P xs → AllByRecursion P (slice_set xs i x)
  each-with [] i x k h = tt
  each-with (y ∷ xs) zero x k h = (k, h.1)
  each-with (y ∷ xs) (suc i) x k h = (h.0, each-with xs i x k h.1)

  each-of-same : (n : ℕ) (x : X) → P x → AllByRecursion P (replicate n x)
  each-of-same zero x k = tt
  each-of-same (suc n) x k = (k, each-of-same n x k)

-- ---- flags

-- `silent`, and those that hand on flags at a spawn
abbrev flag_can_differ : Flag → Bool
flag_can_differ send_flag = false
flag_can_differ receive_flag = false
flag_can_differ call_flag = false
flag_can_differ procs_flag = false
flag_can_differ silent_flag = true
flag_can_differ arity_flag = false
flag_can_differ set_on_spawn = true
flag_can_differ set_on_first_spawn = true
flag_can_differ set_on_link = false
flag_can_differ set_on_first_link = false

-- none of them is set
abbrev HasPlainFlags : Flags → Type 0
HasPlainFlags f = (x : Flag) → flag_can_differ x ≡ true → f x ≡ false

plain-flags : (f : Flags) → flags_can_differ f ≡ false → HasPlainFlags f
plain-flags f h =
    let a : _ × (f set_on_first_spawn ≡ false) = or_parts _ (f set_on_first_spawn) h in
    let b : (f silent_flag ≡ false) × (f set_on_spawn ≡ false) = or_parts (f silent_flag) (f set_on_spawn) a.0 in
    each b.0 b.1 a.1
  where
    each : f silent_flag ≡ false → f set_on_spawn ≡ false → f set_on_first_spawn ≡ false → HasPlainFlags f
    each a b c send_flag k = absurd (cc k)
    each a b c receive_flag k = absurd (cc k)
    each a b c call_flag k = absurd (cc k)
    each a b c procs_flag k = absurd (cc k)
    each a b c silent_flag k = a
    each a b c arity_flag k = absurd (cc k)
    each a b c set_on_spawn k = b
    each a b c set_on_first_spawn k = c
    each a b c set_on_link k = absurd (cc k)
    each a b c set_on_first_link k = absurd (cc k)

-- nor is one after a change
plain-union : (f g : Flags) → HasPlainFlags f → HasPlainFlags g → HasPlainFlags (union f g)
plain-union f g h k x e = or_from (f x) (g x) (h x e) (k x e)

plain-without : (f g : Flags) → HasPlainFlags f → HasPlainFlags (without f g)
plain-without f g h x e = and_left (f x) (not (g x)) (h x e)

plain-change : (set : Bool) (f old : Flags) → HasPlainFlags f → HasPlainFlags old → HasPlainFlags (changed_flags set f old)
plain-change true f old h k = plain-union old f k h
plain-change false f old h k = plain-without old f k

-- what is given, and what is left, by the two flags' values
abbrev pair_by : Flags → (always first : Flag) → Bool → Bool → Flags × Flags
pair_by f always first a b = let rest : Flags = without f (union (only always) (only first)) in if a then (rest, rest) else (if b then f else no_flags, f)

plain-pair : (always first : Flag) (f : Flags) → HasPlainFlags f → HasPlainFlags (given_and_kept always first f).0 × HasPlainFlags (given_and_kept always first f).1
plain-pair always first f h = go (f first) (f always)
  where
    go : (a b : Bool) → HasPlainFlags (pair_by f always first a b).0 × HasPlainFlags (pair_by f always first a b).1
    go true b = (plain-without f _ h, plain-without f _ h)
    go false true = (h, h)
    go false false = (λ x e. refl, h)

-- the flags of parent and child
plain-spawn : (parent child : Flags) → HasPlainFlags parent → HasPlainFlags child → HasPlainFlags (after_spawn parent child).0 × HasPlainFlags (after_spawn parent child).1
plain-spawn parent child h k =
    let pair : HasPlainFlags (given_and_kept set_on_spawn set_on_first_spawn parent).0 × HasPlainFlags (given_and_kept set_on_spawn set_on_first_spawn parent).1 = plain-pair set_on_spawn set_on_first_spawn parent h in
    (pair.1, plain-union child _ k pair.0)

-- the flags of a process that links and of its partner
plain-link : (linker partner : Flags) → HasPlainFlags linker → HasPlainFlags partner → HasPlainFlags (after_link linker partner).0 × HasPlainFlags (after_link linker partner).1
plain-link linker partner h k =
    let pair : HasPlainFlags (given_and_kept set_on_link set_on_first_link linker).0 × HasPlainFlags (given_and_kept set_on_link set_on_first_link linker).1 = plain-pair set_on_link set_on_first_link linker h in
    (pair.1, plain-union partner _ k pair.0)

-- ---- a session

-- none of its flags and settings is one by which a node can differ
pub record IsPlain (s : Session) : Type 0 where
  pub of_flags : AllByRecursion HasPlainFlags s.flags
  pub of_new_processes : HasPlainFlags s.new_process_flags
  pub of_functions : FunctionsArePlain s.functions
  pub of_sending : setting_can_differ s.sending ≡ false
  pub of_receiving : setting_can_differ s.receiving ≡ false

-- a new session is plain
pub new_is_plain : (phase : Phase) (alive : Alive) → IsPlain (new_session phase alive)
new_is_plain phase alive = record {
  of_flags = each-of-same HasPlainFlags PROCESSES no_flags (λ x e. refl);
  of_new_processes = λ x e. refl;
  of_functions = tt;
  of_sending = refl;
  of_receiving = refl;
}

-- with another phase, other living processes, other flags or other marks
plain-phase : (s : Session) (phase : Phase) → IsPlain s → IsPlain (record s { phase = phase })
plain-phase s phase h = record { of_flags = h.of_flags; of_new_processes = h.of_new_processes; of_functions = h.of_functions; of_sending = h.of_sending; of_receiving = h.of_receiving }

plain-alive : (s : Session) (alive : Alive) → IsPlain s → IsPlain (record s { alive = alive })
plain-alive s alive h = record { of_flags = h.of_flags; of_new_processes = h.of_new_processes; of_functions = h.of_functions; of_sending = h.of_sending; of_receiving = h.of_receiving }

plain-table : (s : Session) (t : List Flags) → AllByRecursion HasPlainFlags t → IsPlain s → IsPlain (record s { flags = t })
plain-table s t k h = record { of_flags = k; of_new_processes = h.of_new_processes; of_functions = h.of_functions; of_sending = h.of_sending; of_receiving = h.of_receiving }

plain-with-flags : (s : Session) (n : ℕ) (f : Flags) → HasPlainFlags f → IsPlain s → IsPlain (with_flags s n f)
plain-with-flags s n f k h = plain-table s _ (each-with HasPlainFlags s.flags (n - FIRST_PID) f k h.of_flags) h

plain-with-marks : (s : Session) (n : ℕ) (ms : List Mark) → IsPlain s → IsPlain (with_marks s n ms)
plain-with-marks s n ms h = record { of_flags = h.of_flags; of_new_processes = h.of_new_processes; of_functions = h.of_functions; of_sending = h.of_sending; of_receiving = h.of_receiving }

-- what is read of it
flags-of : (s : Session) (n : ℕ) → IsPlain s → HasPlainFlags (flags_at s n)
flags-of s n h = each-at HasPlainFlags s.flags (n - FIRST_PID) no_flags h.of_flags (λ x e. refl)

-- ---- inheritance

plain-inherit : (s : Session) (e : Event) → IsPlain s → IsPlain (inherit s e)
plain-inherit s (spawned child parent f args) h =
    let t : Session = record s { alive = with_alive s.alive child true } in
    let pair : Flags × Flags = after_spawn (flags_at s parent) s.new_process_flags in
    let both : HasPlainFlags pair.0 × HasPlainFlags pair.1 = plain-spawn (flags_at s parent) s.new_process_flags (flags-of s parent h) h.of_new_processes in
    plain-with-flags (with_flags t parent pair.0) child pair.1 both.1 (plain-with-flags t parent pair.0 both.0 (plain-alive s _ h))
plain-inherit s (getting_linked p linker) h =
    let pair : Flags × Flags = after_link (flags_at s linker) (flags_at s p) in
    let both : HasPlainFlags pair.0 × HasPlainFlags pair.1 = plain-link (flags_at s linker) (flags_at s p) (flags-of s linker h) (flags-of s p h) in
    plain-with-flags (with_flags s linker pair.0) p pair.1 both.1 (plain-with-flags s linker pair.0 both.0 h)
plain-inherit s (sent p t to alive) h = h
plain-inherit s (received p sender t) h = h
plain-inherit s (called p c) h = h
plain-inherit s (returned p f t depth) h = h
plain-inherit s (raised p f c t depth) h = h
plain-inherit s (spawning p child f args) h = h
plain-inherit s (exited p r) h = h
plain-inherit s (linked p q) h = h
plain-inherit s (unlinked p q) h = h
plain-inherit s (getting_unlinked p q) h = h

-- ---- an event

plain-where-flag : (s : Session) (b : Bool) (o : Option (List Effect)) → HasPlainEffects o → HasPlainEffects (if b then o else None)
plain-where-flag s true o h = h
plain-where-flag s false o h = tt

plain-where-mark : (s : Session) (p : ℕ) (m : Bool) → HasPlainEffects (where_marked s p m)
plain-where-mark s p true = plain-where-flag s (flags_at s p call_flag) (Some []) tt
plain-where-mark s p false = tt

plain-effects : (s : Session) (e : Event) → IsPlain s → HasPlainEffects (effects_of s e)
plain-effects s (sent p t to alive) h = plain-where-flag s (flags_at s p send_flag) _ (plain_effects_of_setting s.sending _ h.of_sending)
plain-effects s (received p sender t) h = plain-where-flag s (flags_at s p receive_flag) _ (plain_effects_of_setting s.receiving _ h.of_receiving)
plain-effects s (called p c) h = plain-where-flag s (flags_at s p call_flag) _ (plain_effects_of_setting (setting_for s.functions c) _ (plain_setting_for s.functions c h.of_functions))
plain-effects s (returned p f t depth) h = plain-where-mark s p _
plain-effects s (raised p f c t depth) h = plain-where-mark s p _
plain-effects s (spawning p child f args) h = plain-where-flag s (flags_at s p procs_flag) (Some []) tt
plain-effects s (spawned p parent f args) h = plain-where-flag s (flags_at s p procs_flag) (Some []) tt
plain-effects s (exited p r) h = plain-where-flag s (flags_at s p procs_flag) (Some []) tt
plain-effects s (linked p q) h = plain-where-flag s (flags_at s p procs_flag) (Some []) tt
plain-effects s (unlinked p q) h = plain-where-flag s (flags_at s p procs_flag) (Some []) tt
plain-effects s (getting_linked p q) h = plain-where-flag s (flags_at s p procs_flag) (Some []) tt
plain-effects s (getting_unlinked p q) h = plain-where-flag s (flags_at s p procs_flag) (Some []) tt

plain-mark-frame : (s : Session) (p depth : ℕ) (o : Option MarkKind) → IsPlain s → IsPlain (mark_frame s p depth o)
plain-mark-frame s p depth None h = h
plain-mark-frame s p depth (Some kind) h = plain-with-marks s p (record { depth = depth; kind = kind } ∷ marks_at s p) h

plain-finish : (s : Session) (e : Event) (es : List Effect) → IsPlain s → IsPlain (finish s e es)
plain-finish s (called p c) es h = plain-mark-frame s p c.depth (mark_asked es) h
plain-finish s (returned p f t depth) es h = plain-with-marks s p _ h
plain-finish s (raised p f c t depth) es h = plain-with-marks s p _ h
plain-finish s (exited p r) es h =
    let t : Session = record s { alive = with_alive s.alive p false } in
    plain-with-marks (with_flags t p no_flags) p [] (plain-with-flags t p no_flags (λ x e. refl) (plain-alive s _ h))
plain-finish s (sent p t to alive) es h = h
plain-finish s (received p sender t) es h = h
plain-finish s (spawning p child f args) es h = h
plain-finish s (spawned p parent f args) es h = h
plain-finish s (linked p q) es h = h
plain-finish s (unlinked p q) es h = h
plain-finish s (getting_linked p q) es h = h
plain-finish s (getting_unlinked p q) es h = h

plain-report : (s : Session) (e : Event) (o : Option (List Effect)) → HasPlainEffects o → IsPlain s → IsPlain (reported_for s e o).0
plain-report s e None k h = plain-finish s e [] h
plain-report s e (Some es) k h =
    plain-finish (all_affected (process_of e) s es) e es (subst (λ t. IsPlain (record s { flags = t })) (sym (flags_same_after (process_of e) s.flags es k)) h)

plain-report-in : (x : Phase) (s : Session) (e : Event) → IsPlain s → IsPlain (reported_in x s e).0
plain-report-in absent s e h = plain-alive s _ h
plain-report-in destroyed s e h = plain-alive s _ h
plain-report-in live s e h = plain-report (inherit s e) e _ (plain-effects (inherit s e) e (plain-inherit s e h)) (plain-inherit s e h)

pub event_leaves_plain : (s : Session) (e : Event) → IsPlain s → IsPlain (event_reported s e).0
event_leaves_plain s e h = plain-report-in s.phase s e h

-- ---- a command

plain-all-changes : (set : Bool) (f : Flags) (alive : Alive) (t : List Flags) → HasPlainFlags f → AllByRecursion HasPlainFlags t → AllByRecursion HasPlainFlags (all_changed set f alive t)
plain-all-changes set f alive [] k h = tt
plain-all-changes set f [] (g ∷ t) k h = h
plain-all-changes set f (b ∷ alive) (g ∷ t) k h = (go b, plain-all-changes set f alive t k h.1)
  where
    go : (b : Bool) → HasPlainFlags (if b then changed_flags set f g else g)
    go true = plain-change set f g k h.0
    go false = h.0

plain-existing : (set : Bool) (f : Flags) (s : Session) → HasPlainFlags f → IsPlain s → IsPlain (existing_changed set f s)
plain-existing set f s k h = plain-table s _ (plain-all-changes set f s.alive s.flags k h.of_flags) h

plain-new-processes : (set : Bool) (f : Flags) (s : Session) → HasPlainFlags f → IsPlain s → IsPlain (new_changed set f s)
plain-new-processes set f s k h = record {
  of_flags = h.of_flags;
  of_new_processes = plain-change set f s.new_process_flags k h.of_new_processes;
  of_functions = h.of_functions;
  of_sending = h.of_sending;
  of_receiving = h.of_receiving;
}

plain-flags-command : (s : Session) (procs : Procs) (set : Bool) (f : Flags) → HasPlainFlags f → IsPlain s → IsPlain (flags_set s procs set f).0
plain-flags-command s (one_process n) set f k h = go (is_alive s.alive n)
  where
    go : (b : Bool) → IsPlain (if b then (with_flags s n (changed_flags set f (flags_at s n)), number_term 1) else refuse s).0
    go true = plain-with-flags s n _ (plain-change set f (flags_at s n) k (flags-of s n h)) h
    go false = h
plain-flags-command s existing set f k h = plain-existing set f s k h
plain-flags-command s new_processes set f k h = plain-new-processes set f s k h
plain-flags-command s all_processes set f k h = plain-existing set f (new_changed set f s) k (plain-new-processes set f s k h)

plain-flags-command-if : (s : Session) (procs : Option Procs) (how : Option Bool) (o : Option Flags) → listed_can_differ o ≡ false → IsPlain s → IsPlain (flags_set_if s procs how o).0
plain-flags-command-if s None how o k h = h
plain-flags-command-if s (Some procs) None o k h = h
plain-flags-command-if s (Some procs) (Some set) None k h = h
plain-flags-command-if s (Some procs) (Some set) (Some f) k h = plain-flags-command s procs set f (plain-flags f k) h

plain-function-command : (o : Exports) (s : Session) (covered : Option FunctionPattern) (local : Option Bool) (spec : Tree) → read_can_differ (setting_of for_calls spec) ≡ false → IsPlain s → IsPlain (function_set_if o s covered local spec).0
plain-function-command o s None local spec k h = h
plain-function-command o s (Some covered) None spec k h = h
plain-function-command o s (Some covered) (Some local) spec k h = go (setting_of for_calls spec) k
  where
    go : (r : Reads Setting) → read_can_differ r ≡ false → IsPlain (function_set o s covered local r).0
    go (Err e) g = h
    go (Ok setting) g = record {
      of_flags = h.of_flags;
      of_new_processes = h.of_new_processes;
      of_functions = (g, h.of_functions);
      of_sending = h.of_sending;
      of_receiving = h.of_receiving;
    }

plain-send-command : (s : Session) (r : Reads Setting) → read_can_differ r ≡ false → IsPlain s → IsPlain (send_set s r).0
plain-send-command s (Err e) k h = h
plain-send-command s (Ok setting) k h = record { of_flags = h.of_flags; of_new_processes = h.of_new_processes; of_functions = h.of_functions; of_sending = k; of_receiving = h.of_receiving }

plain-receive-command : (s : Session) (r : Reads Setting) → read_can_differ r ≡ false → IsPlain s → IsPlain (receive_set s r).0
plain-receive-command s (Err e) k h = h
plain-receive-command s (Ok setting) k h = record { of_flags = h.of_flags; of_new_processes = h.of_new_processes; of_functions = h.of_functions; of_sending = h.of_sending; of_receiving = k }

plain-command-in-live : (o : Exports) (s : Session) (c : Command) → command_can_differ c ≡ false → IsPlain s → IsPlain (done_live o s c).0
plain-command-in-live o s (create name tracer) k h = h
plain-command-in-live o s (destroy name) k h = new_is_plain destroyed s.alive
plain-command-in-live o s (set_processes name procs how flags) k h = plain-flags-command-if s (procs_of procs) (how_of how) (flags_listed flags) k h
plain-command-in-live o s (set_function name mfa spec options) k h = plain-function-command o s (trace_pattern_of mfa) (options_of options) spec k h
plain-command-in-live o s (set_send name spec) k h = plain-send-command s (setting_of for_sends spec) k h
plain-command-in-live o s (set_receive name spec) k h = plain-receive-command s (setting_of for_receives spec) k h

plain-command-in-absent : (s : Session) (c : Command) → IsPlain s → IsPlain (done_absent s c).0
plain-command-in-absent s (create name tracer) h = plain-phase s live h
plain-command-in-absent s (destroy name) h = h
plain-command-in-absent s (set_processes name procs how flags) h = h
plain-command-in-absent s (set_function name mfa spec options) h = h
plain-command-in-absent s (set_send name spec) h = h
plain-command-in-absent s (set_receive name spec) h = h

plain-command-in-destroyed : (s : Session) (c : Command) → IsPlain s → IsPlain (done_destroyed s c).0
plain-command-in-destroyed s (create name tracer) h = h
plain-command-in-destroyed s (destroy name) h = h
plain-command-in-destroyed s (set_processes name procs how flags) h = h
plain-command-in-destroyed s (set_function name mfa spec options) h = h
plain-command-in-destroyed s (set_send name spec) h = h
plain-command-in-destroyed s (set_receive name spec) h = h

pub command_leaves_plain : (o : Exports) (s : Session) (c : Command) → command_can_differ c ≡ false → IsPlain s → IsPlain (command_done o s c).0
command_leaves_plain o s c k h = go s.phase
  where
    go : (x : Phase) → IsPlain (done_in x o s c).0
    go absent = plain-command-in-absent s c h
    go live = plain-command-in-live o s c k h
    go destroyed = plain-command-in-destroyed s c h

-- ---- what a node does otherwise

no-evaluation-difference : (s : Session) (e : Event) → IsPlain s → evaluation_differences s e ≡ []
no-evaluation-difference s (sent p t to alive) h = go (flags_at s p send_flag) refl
  where
    go : (b : Bool) → flags_at s p send_flag ≡ b → differences_if b (setting_differences s.sending (context s p (pid to ∷ t ∷ []) None)) ≡ []
    go true has = no_difference_by_setting (context s p (pid to ∷ t ∷ []) None) (has_send (flags_at s p) has) (flags-of s p h silent_flag refl) s.sending h.of_sending
    go false has = refl
no-evaluation-difference s (received p sender t) h = go (flags_at s p receive_flag) refl
  where
    go : (b : Bool) → flags_at s p receive_flag ≡ b → differences_if b (setting_differences s.receiving (context s p (word "nonode@nohost" ∷ pid sender ∷ t ∷ []) None)) ≡ []
    go true has = no_difference_by_setting (context s p (word "nonode@nohost" ∷ pid sender ∷ t ∷ []) None) (has_receive (flags_at s p) has) (flags-of s p h silent_flag refl) s.receiving h.of_receiving
    go false has = refl
no-evaluation-difference s (called p c) h = go (flags_at s p call_flag) refl
  where
    go : (b : Bool) → flags_at s p call_flag ≡ b → differences_if b (setting_differences (setting_for s.functions c) (context s p c.args c.caller)) ≡ []
    go true has = no_difference_by_setting (context s p c.args c.caller) (has_call (flags_at s p) has) (flags-of s p h silent_flag refl) (setting_for s.functions c) (plain_setting_for s.functions c h.of_functions)
    go false has = refl
no-evaluation-difference s (returned p f t depth) h = refl
no-evaluation-difference s (raised p f c t depth) h = refl
no-evaluation-difference s (spawning p child f args) h = refl
no-evaluation-difference s (spawned p parent f args) h = refl
no-evaluation-difference s (exited p r) h = refl
no-evaluation-difference s (linked p q) h = refl
no-evaluation-difference s (unlinked p q) h = refl
no-evaluation-difference s (getting_linked p q) h = refl
no-evaluation-difference s (getting_unlinked p q) h = refl

not-where : (b : Bool) (x : Difference) → b ≡ false → difference_where b x ≡ None
not-where b x h = ap (λ a. difference_where a x) h

no-event-difference : (s : Session) (e : Event) → IsPlain s → event_difference s e ≡ None
no-event-difference s (returned p f t depth) h = refl
no-event-difference s (raised p f c t depth) h = refl
no-event-difference s (spawned child parent f args) h =
    let own : HasPlainFlags (flags_at s parent) = flags-of s parent h in
    not-where _ inherits_alone (and_left (hands_on (flags_at s parent)) _ (or_from (flags_at s parent set_on_spawn) _ (own set_on_spawn refl) (own set_on_first_spawn refl)))
no-event-difference s (getting_linked p linker) h = refl
no-event-difference s (sent p t to alive) h = refl
no-event-difference s (received p sender t) h = refl
no-event-difference s (called p c) h = refl
no-event-difference s (spawning p child f args) h = refl
no-event-difference s (exited p r) h = refl
no-event-difference s (linked p q) h = refl
no-event-difference s (unlinked p q) h = refl
no-event-difference s (getting_unlinked p q) h = refl

-- a session that isn't there makes no lines of an event
pub event_without_difference : (s : Session) (l : Outlook) (e : Event) → IsPlain s → differences_in_lines (event_lines s l e) ≡ []
event_without_difference s l e h = go s.phase refl
  where
    go : (x : Phase) → s.phase ≡ x → differences_in_lines (event_lines s l e) ≡ []
    go absent k = ap (λ x. differences_in_lines (event_lines_in x s l e)) k
    go destroyed k = ap (λ x. differences_in_lines (event_lines_in x s l e)) k
    go live k = lines_tell_the_difference s l e k ∙ ap₂ (λ a b. a ++ option_to_list b) (no-evaluation-difference s e h) (no-event-difference s e h)
