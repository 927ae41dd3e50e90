-- A session of a node makes the same of an event as one here, where the event has no rule of its own there.
use Rattle.std.proofs.Common.{◌≡◌, ℕ, zero, suc, ◌-◌, ◌&&◌, ◌||◌, not, Bool, true, false, List, [], ◌∷◌, ◌++◌, slice_get, slice_set, unwrap_or, is_some, Option, Some, None, option_to_list, refl, ap, ap₂, sym, ◌∙◌, subst, append-nil, if◌then◌else◌}
use Rattle.std.proofs.lemmas.Bool.{false≢true, and_parts, and_right}
use Rattle.def_term.specs.Tree.{Tree, tuple, of_elements}
use Rattle.def_term.specs.Names.{Mfa}
use Rattle.def_term.specs.Alive.{FIRST_PID}
use Rattle.def_script.specs.Program.{Class}
use Rattle.def_spec.specs.Flags.{Flag, Flags, no_flags, only, union, without, after_spawn, set_on_spawn, set_on_first_spawn, silent_flag, call_flag, procs_flag}
use Rattle.def_spec.specs.Expressions.{Effect}
use Rattle.def_node.specs.Event.{Event, sent, received, called, returned, raised, spawning, spawned, exited, linked, unlinked, getting_linked, getting_unlinked}
use Rattle.def_outlook.specs.Outlook.{Outlook, RuntimeError}
use Rattle.def_session.specs.State.{Phase, absent, live, destroyed, MarkKind, Session, flags_at}
use Rattle.def_session.specs.Messages.{elements_of, process_of}
use Rattle.def_session.specs.Session.{inherit, effects_of, is_marked, is_for_exceptions, is_marked_for_exceptions, all_affected, mark_asked, mark_frame, finish, EventResult, reported_for, reported_in, event_reported}
use Rattle.def_explain.specs.Differences.{hands_on}
use Rattle.def_running_node.specs.NodeSessions.{NodeSession, new_flags_for, with_new_flags, is_decided, message_where, message_unless, reported_there}
use Rattle.def_running_node.specs.NodeRuns.{NodeRun, Signal, is_reported_exit, is_of_error, error_messages, exit_messages, noproc_messages, run_messages}
use Rattle.def_running_node.specs.Laws.{HandsOnNothing, SameSessionThere, ChildHasNoOtherFlag, NewFlagsStay, IsReportedAlike, SameMessageThere}

-- ---- the flags for new processes

pub new_flags_stay : NewFlagsStay
new_flags_stay s e = refl

-- no event here changes them either
of-marks : (s : Session) (p depth : ℕ) (k : Option MarkKind) → (mark_frame s p depth k).new_process_flags ≡ s.new_process_flags
of-marks s p depth None = refl
of-marks s p depth (Some k) = refl

after-finish : (s : Session) (e : Event) (es : List Effect) → (finish s e es).new_process_flags ≡ s.new_process_flags
after-finish s (called p c) es = of-marks s p c.depth (mark_asked es)
after-finish s (returned p f v depth) es = refl
after-finish s (raised p f c v depth) es = refl
after-finish s (exited p x) es = refl
after-finish s (sent p x to alive) es = refl
after-finish s (received p sender x) es = refl
after-finish s (spawning p child f args) es = refl
after-finish s (spawned p parent f args) es = refl
after-finish s (linked p q) es = refl
after-finish s (unlinked p q) es = refl
after-finish s (getting_linked p q) es = refl
after-finish s (getting_unlinked p q) es = refl

after-effects : (s : Session) (e : Event) (o : Option (List Effect)) → (reported_for s e o).0.new_process_flags ≡ s.new_process_flags
after-effects s e None = after-finish s e []
after-effects s e (Some es) = after-finish (all_affected (process_of e) s es) e es

after-inheritance : (s : Session) (e : Event) → (inherit s e).new_process_flags ≡ s.new_process_flags
after-inheritance s (spawned p parent f args) = refl
after-inheritance s (getting_linked p q) = refl
after-inheritance s (called p c) = refl
after-inheritance s (returned p f v depth) = refl
after-inheritance s (raised p f c v depth) = refl
after-inheritance s (exited p x) = refl
after-inheritance s (sent p x to alive) = refl
after-inheritance s (received p sender x) = refl
after-inheritance s (spawning p child f args) = refl
after-inheritance s (linked p q) = refl
after-inheritance s (unlinked p q) = refl
after-inheritance s (getting_unlinked p q) = refl

after-event : (x : Phase) (s : Session) (e : Event) → (reported_in x s e).0.new_process_flags ≡ s.new_process_flags
after-event absent s e = refl
after-event destroyed s e = refl
after-event live s e = after-effects (inherit s e) e (effects_of (inherit s e) e) ∙ after-inheritance s e

-- those that a child gets, whose parent hands on none
as-here : (s : Session) (e : Event) → HandsOnNothing s e → new_flags_for s e ≡ s.new_process_flags
as-here s (spawned p parent f args) h = ap (λ b. if b then no_flags else s.new_process_flags) h
as-here s (getting_linked p q) h = refl
as-here s (called p c) h = refl
as-here s (returned p f v depth) h = refl
as-here s (raised p f c v depth) h = refl
as-here s (exited p x) h = refl
as-here s (sent p x to alive) h = refl
as-here s (received p sender x) h = refl
as-here s (spawning p child f args) h = refl
as-here s (linked p q) h = refl
as-here s (unlinked p q) h = refl
as-here s (getting_unlinked p q) h = refl

-- with these, and afterwards with those
abbrev reported_with : (during afterwards : Flags) → Session → Event → EventResult
reported_with f g s e = let r : EventResult = event_reported (with_new_flags f s) e in (with_new_flags g r.0, r.1)

pub same_session_there : SameSessionThere
same_session_there s e h =
    let here : reported_there s e ≡ reported_with s.new_process_flags s.new_process_flags s e = ap (λ f. reported_with f s.new_process_flags s e) (as-here s e h) in
    here ∙ ap (λ f. reported_with s.new_process_flags f s e) (sym (after-event s.phase s e))

-- ---- a child

read-back : (xs : List Flags) (i : ℕ) (f : Flags) (x : Flag) → unwrap_or (slice_get (slice_set xs i f) i) no_flags x ≡ true → f x ≡ true
read-back [] i f x h = absurd (false≢true h)
read-back (y ∷ xs) zero f x h = h
read-back (y ∷ xs) (suc i) f x h = read-back xs i f x h

-- what is given, by the values of the two flags, is the giver's
abbrev given_by : Flags → (first always : Bool) → Flags × Flags
given_by f first always = let rest : Flags = without f (union (only set_on_spawn) (only set_on_first_spawn)) in if first then (rest, rest) else (if always then f else no_flags, f)

of-giver : (f : Flags) (first always : Bool) (x : Flag) → (given_by f first always).0 x ≡ true → f x ≡ true
of-giver f true always x h = (and_parts (f x) (not (union (only set_on_spawn) (only set_on_first_spawn) x)) h).0
of-giver f false true x h = h
of-giver f false false x h = absurd (false≢true h)

module _ (s : Session) (child parent : ℕ) (f : Mfa) (args : List Tree) (x : Flag) where
  -- the event of the child
  abbrev start : Event
  start = spawned child parent f args

  -- whether it has the flag, where these are those for new processes
  abbrev has_flag : Flags → Phase → Bool
  has_flag g y = flags_at (with_new_flags s.new_process_flags (reported_in y (with_new_flags g s) start).0) child x

  -- its flags are those after inheritance, whether the event is reported or not
  of-inheritance : (t : Session) (b : Bool) → flags_at (with_new_flags s.new_process_flags (reported_for t start (if b then Some [] else None)).0) child x ≡ true → flags_at t child x ≡ true
  of-inheritance t true h = h
  of-inheritance t false h = h

  of-parent : has_flag no_flags live ≡ true → flags_at s parent x ≡ true
  of-parent h =
      let t : Session = inherit (with_new_flags no_flags s) start in
      let there : flags_at t child x ≡ true = of-inheritance t (flags_at t child procs_flag) h in
      let pair : Flags × Flags = after_spawn (flags_at s parent) no_flags in
      of-giver (flags_at s parent) (flags_at s parent set_on_first_spawn) (flags_at s parent set_on_spawn) x
      (read-back (slice_set s.flags (parent - FIRST_PID) pair.0) (child - FIRST_PID) pair.1 x there)

pub child_has_no_other_flag : ChildHasNoOtherFlag
child_has_no_other_flag s child parent f args x lives hands h =
    let given : (if hands_on (flags_at s parent) then no_flags else s.new_process_flags) ≡ no_flags = ap (λ b. if b then no_flags else s.new_process_flags) hands in
    of-parent s child parent f args x (sym (ap₂ (λ g y. has_flag s child parent f args x g y) given lives) ∙ h)

-- ---- messages

-- the parent hands on nothing at such an event
hands-on-nothing : (r : NodeRun) (l : Outlook) (s : NodeSession) (e : Event) → IsReportedAlike r l s e → HandsOnNothing s.session e
hands-on-nothing r l s (spawned p parent f args) h = h
hands-on-nothing r l s (getting_linked p q) h = tt
hands-on-nothing r l s (called p c) h = tt
hands-on-nothing r l s (returned p f v depth) h = tt
hands-on-nothing r l s (raised p f c v depth) h = tt
hands-on-nothing r l s (exited p x) h = tt
hands-on-nothing r l s (sent p x to alive) h = tt
hands-on-nothing r l s (received p sender x) h = tt
hands-on-nothing r l s (spawning p child f args) h = tt
hands-on-nothing r l s (linked p q) h = tt
hands-on-nothing r l s (unlinked p q) h = tt
hands-on-nothing r l s (getting_unlinked p q) h = tt

-- of a return or an exception, where the frame has a mark for it, and the process has `call`
module _ (s : Session) (p : ℕ) where
  abbrev with_mark_and_flag : (a b : Bool) → Option (List Effect)
  with_mark_and_flag a b = if a then (if b then Some [] else None) else None

  of-return : (f : Mfa) (v : Tree) (depth : ℕ) (a b : Bool) → flags_at (reported_for s (returned p f v depth) (with_mark_and_flag a b)).0 p silent_flag ≡ false
      → message_where (a && b) (returned p f v depth) ≡ option_to_list (reported_for s (returned p f v depth) (with_mark_and_flag a b)).1
  of-return f v depth true true h = sym (ap (λ b. option_to_list (if b then None else Some (tuple (of_elements (elements_of false (returned p f v depth)))))) h)
  of-return f v depth true false h = refl
  of-return f v depth false b h = refl

  of-raise : (f : Mfa) (c : Class) (v : Tree) (depth : ℕ) (a b : Bool) → flags_at (reported_for s (raised p f c v depth) (with_mark_and_flag a b)).0 p silent_flag ≡ false
      → message_where (a && b) (raised p f c v depth) ≡ option_to_list (reported_for s (raised p f c v depth) (with_mark_and_flag a b)).1
  of-raise f c v depth true true h = sym (ap (λ b. option_to_list (if b then None else Some (tuple (of_elements (elements_of false (raised p f c v depth)))))) h)
  of-raise f c v depth true false h = refl
  of-raise f c v depth false b h = refl

-- what a node reports is what is reported here
reported-alike : (r : NodeRun) (l : Outlook) (s : NodeSession) (e : Event) → s.session.phase ≡ live → IsReportedAlike r l s e →
    run_messages r l s (event_reported s.session e).0 e (event_reported s.session e).1 ≡ option_to_list (event_reported s.session e).1
reported-alike r l s (sent p x to alive) lives h =
    ap (λ b. message_unless b (event_reported s.session (sent p x to alive)).1) (and_right (is_decided s.session.sending) (flags_at (event_reported s.session (sent p x to alive)).0 p silent_flag) h)
reported-alike r l s (received p sender x) lives h =
    ap (λ b. message_unless b (event_reported s.session (received p sender x)).1) (and_right (is_decided s.session.receiving) (flags_at (event_reported s.session (received p sender x)).0 p silent_flag) h)
reported-alike r l s (returned p f v depth) lives h =
    ap (λ k. message_where (is_some k && flags_at s.session p call_flag) (returned p f v depth)) h.1
    ∙ subst (λ y. flags_at (reported_in y s.session (returned p f v depth)).0 p silent_flag ≡ false
    → message_where (is_marked s.session p depth && flags_at s.session p call_flag) (returned p f v depth) ≡ option_to_list (reported_in y s.session (returned p f v depth)).1)
    (sym lives) (of-return s.session p f v depth (is_marked s.session p depth) (flags_at s.session p call_flag)) h.0
reported-alike r l s (raised p f c v depth) lives h =
    ap (λ k. message_where (is_for_exceptions k && flags_at s.session p call_flag) (raised p f c v depth)) h.1
    ∙ subst (λ y. flags_at (reported_in y s.session (raised p f c v depth)).0 p silent_flag ≡ false
    → message_where (is_marked_for_exceptions s.session p depth && flags_at s.session p call_flag) (raised p f c v depth) ≡ option_to_list (reported_in y s.session (raised p f c v depth)).1)
    (sym lives) (of-raise s.session p f c v depth (is_marked_for_exceptions s.session p depth) (flags_at s.session p call_flag)) h.0
reported-alike r l s (exited p x) lives h =
    ap₂ (λ (o : Option RuntimeError) (g : Option Signal).
    if is_reported_exit g then [] else
    (if is_some o then error_messages s p x else []) ++ exit_messages (is_some o || is_of_error g) p x (event_reported s.session (exited p x)).1) h.0 h.1
reported-alike r l s (linked p q) lives h =
    ap (λ b. option_to_list (event_reported s.session (linked p q)).1 ++ (if b then [] else noproc_messages s p)) h ∙ append-nil _
reported-alike r l s (getting_unlinked p q) lives h = ap (λ b. if b then [] else option_to_list (event_reported s.session (getting_unlinked p q)).1) h
reported-alike r l s (called p c) lives h = refl
reported-alike r l s (spawning p child f args) lives h = refl
reported-alike r l s (spawned p parent f args) lives h = refl
reported-alike r l s (unlinked p q) lives h = refl
reported-alike r l s (getting_linked p q) lives h = refl

pub same_message_there : SameMessageThere
same_message_there r l s e lives h =
    ap (λ (x : EventResult). run_messages r l s x.0 e x.1) (same_session_there s.session e (hands-on-nothing r l s e h)) ∙ reported-alike r l s e lives h
