-- The lines of an event, by those that are known before the session sees it and those after them.
use Rattle.std.proofs.Common.{◌≡◌, ◌∙◌, ℕ, suc, ◌==◌, arith, length, Bool, true, false, if◌then◌else◌, List, [], ◌∷◌, ◌++◌, Option, Some, None, option_to_list, map, is_some, subst, refl, sym, ap, append-nil}
use Rattle.std.specs.Option.{option_map, unwrap_or}
use Rattle.std.proofs.lemmas.Bool.Decides.{nat_tests}
use Rattle.def_term.specs.Tree.{Tree}
use Rattle.def_term.specs.Order.{same}
use Rattle.def_term.specs.Names.{Mfa, word}
use Rattle.def_term.proofs.Same.{same-is}
use Rattle.def_spec.specs.Flags.{Flag, call_flag, procs_flag, silent_flag, arity_flag, send_flag, receive_flag}
use Rattle.def_spec.specs.Expressions.{Effect}
use Rattle.def_node.specs.Event.{Event, sent, received, called, returned, raised, spawning, spawned, exited, linked, unlinked, getting_linked, getting_unlinked}
use Rattle.def_outlook.specs.Outlook.{Outlook}
use Rattle.def_session.specs.State.{Phase, absent, live, destroyed, MarkKind, for_returns, for_exceptions, Session, flags_at, mark_of}
use Rattle.def_session.specs.Messages.{process_of, last_message, elements_of, message_by}
use Rattle.def_session.specs.Session.{inherit, effects_of, is_marked, is_for_exceptions, where_set, where_marked, all_affected, mark_asked, is_silenced, message_after, mark_frame, finish, reported_for, reported_in, event_reported}
use Rattle.def_session.specs.Laws.{needed_for}
use Rattle.def_explain.specs.Causes.{no_mark, no_flag, silenced, message_false, is_false_message, cause_by, cause_where, cause_by_mark, cause_of}
use Rattle.def_term.specs.Text.{pid_text}
use Rattle.def_explain.specs.Accounts.{Line, line_where, said, evaluation_lines, message_lines, mark_lines, end_lines, live_lines, inheritance_lines, flag_lines, differs, node_lines, event_lines_in, event_lines}
use Rattle.def_explain.specs.Differences.{event_difference}
use Rattle.tn_session.specs.Looks.{is_live}
use Rattle.tn_explain.specs.declared.clauses.Evaluation.{Evaluation}
use Rattle.tn_explain.specs.declared.clauses.Evaluation.TheVariants.{Refused, Done}
use Rattle.tn_explain.specs.Evaluations.{marks_seen_by, is_done, mark_by}
use Rattle.tn_explain.proofs.EarlierLines.{no_procs}
use Rattle.tn_explain.specs.LineParts.{both_of, lines_by_effects, lines_before, reported_lines, lines_after, reported_or_no_flag, inherited_by_flags}

-- ---- an event that is evaluated

-- a process with effects has the flag
has_flag : (s : Session) (p : ℕ) (x : Flag) (r : Option (List Effect)) (es : List Effect) → where_set s p x r ≡ Some es → flags_at s p x ≡ true
has_flag s p x r es h = go (flags_at s p x) refl
  where
    go : (b : Bool) → flags_at s p x ≡ b → flags_at s p x ≡ true
    go true e = e
    go false e = absurd (cc (sym (ap (λ b. if b then r else None) e) ∙ h))

by_flag : (s : Session) (e : Event) (es : List Effect) → effects_of s e ≡ Some es → flags_at s (process_of e) (needed_for e) ≡ true → cause_where s e ≡ cause_by s e (Some es)
by_flag s e es h f = ap (λ b. if b then cause_by s e (effects_of s e) else Some (no_flag (needed_for e))) f ∙ ap (cause_by s e) h

cause_is : (s : Session) (e : Event) (es : List Effect) → effects_of s e ≡ Some es → cause_of s e ≡ cause_by s e (Some es)
cause_is s (sent p t to alive) es h = by_flag s (sent p t to alive) es h (has_flag s p send_flag _ es h)
cause_is s (received p sender t) es h = by_flag s (received p sender t) es h (has_flag s p receive_flag _ es h)
cause_is s (called p c) es h = by_flag s (called p c) es h (has_flag s p call_flag _ es h)
cause_is s (returned p f t depth) es h = go (is_marked s p depth) refl
  where
    go : (b : Bool) → is_marked s p depth ≡ b → cause_of s (returned p f t depth) ≡ cause_by s (returned p f t depth) (Some es)
    go true m =
        let set : where_set s p call_flag (Some []) ≡ Some es = sym (ap (λ b. if b then where_set s p call_flag (Some []) else None) m) ∙ h in
        ap (λ b. if b then cause_where s (returned p f t depth) else Some no_mark) m ∙ by_flag s (returned p f t depth) es h (has_flag s p call_flag (Some []) es set)
    go false m = absurd (cc (sym (ap (λ b. if b then where_set s p call_flag (Some []) else None) m) ∙ h))
cause_is s (raised p f c t depth) es h = go (mark_of s p depth) refl
  where
    go : (k : Option MarkKind) → mark_of s p depth ≡ k → cause_of s (raised p f c t depth) ≡ cause_by s (raised p f c t depth) (Some es)
    go None m = absurd (cc (sym (ap (λ k. where_marked s p (is_for_exceptions k)) m) ∙ h))
    go (Some for_returns) m = absurd (cc (sym (ap (λ k. where_marked s p (is_for_exceptions k)) m) ∙ h))
    go (Some for_exceptions) m =
        let set : where_set s p call_flag (Some []) ≡ Some es = sym (ap (λ k. where_marked s p (is_for_exceptions k)) m) ∙ h in
        ap (cause_by_mark s (raised p f c t depth)) m ∙ by_flag s (raised p f c t depth) es h (has_flag s p call_flag (Some []) es set)
cause_is s (spawning p child f args) es h = by_flag s (spawning p child f args) es h (has_flag s p procs_flag _ es h)
cause_is s (spawned p parent f args) es h = by_flag s (spawned p parent f args) es h (has_flag s p procs_flag _ es h)
cause_is s (exited p r) es h = by_flag s (exited p r) es h (has_flag s p procs_flag _ es h)
cause_is s (linked p q) es h = by_flag s (linked p q) es h (has_flag s p procs_flag _ es h)
cause_is s (unlinked p q) es h = by_flag s (unlinked p q) es h (has_flag s p procs_flag _ es h)
cause_is s (getting_linked p q) es h = by_flag s (getting_linked p q) es h (has_flag s p procs_flag _ es h)
cause_is s (getting_unlinked p q) es h = by_flag s (getting_unlinked p q) es h (has_flag s p procs_flag _ es h)

-- marks and the end of a process leave `silent` as it is
still_silent : (t : Session) (e : Event) (es : List Effect) → is_silenced (finish t e es) e ≡ is_silenced t e
still_silent t (called p c) es = go (mark_asked es)
  where
    go : (k : Option MarkKind) → flags_at (mark_frame t p c.depth k) p silent_flag ≡ flags_at t p silent_flag
    go None = refl
    go (Some k) = refl
still_silent t (returned p f v depth) es = refl
still_silent t (raised p f k v depth) es = refl
still_silent t (sent p v to alive) es = refl
still_silent t (received p sender v) es = refl
still_silent t (spawning p child f args) es = refl
still_silent t (spawned p parent f args) es = refl
still_silent t (exited p r) es = refl
still_silent t (linked p q) es = refl
still_silent t (unlinked p q) es = refl
still_silent t (getting_linked p q) es = refl
still_silent t (getting_unlinked p q) es = refl

true_is_no_false : (t : Tree) → same t (word "true") ≡ true → same t (word "false") ≡ false
true_is_no_false t h = ap (λ u. same u (word "false")) (same-is t (word "true") h)

module _ (s : Session) (e : Event) where
  -- the lines of a message that isn't silenced, where its last element is `true` or `false` or neither
  decided_so : (plain suppressed : Bool) (m n : Tree) → (plain ≡ true → suppressed ≡ false)
      → message_lines s e (if suppressed then Some message_false else None) (if plain then Some m else (if suppressed then None else Some n))
      ≡ evaluation_lines s e ++ reported_lines true false (if plain then Some m else (if suppressed then None else Some n))
  decided_so true true m n f = absurd (cc (f refl))
  decided_so true false m n f = refl
  decided_so false true m n f = refl
  decided_so false false m n f = refl

  decided_lines : (o : Option Tree) (ts : List Tree)
      → message_lines s e (if is_false_message o then Some message_false else None) (message_by o ts) ≡ evaluation_lines s e ++ reported_lines true false (message_by o ts)
  decided_lines None ts = refl
  decided_lines (Some t) ts = decided_so (same t (word "true")) (same t (word "false")) _ _ (true_is_no_false t)

  -- and those where it may be
  by_silence : (silent : Bool) (o : Option Tree) (ts : List Tree)
      → message_lines s e (if silent then Some silenced else (if is_false_message o then Some message_false else None)) (if silent then None else message_by o ts)
      ≡ evaluation_lines s e ++ reported_lines true silent (if silent then None else message_by o ts)
  by_silence true o ts = refl
  by_silence false o ts = decided_lines o ts

  message_done : (es : List Effect) → message_lines s e (cause_by s e (Some es)) (reported_for s e (Some es)).1
      ≡ evaluation_lines s e ++ reported_lines true (is_silenced (reported_for s e (Some es)).0 e) (reported_for s e (Some es)).1
  message_done es =
      let t : Session = all_affected (process_of e) s es in
      by_silence (is_silenced t e) (last_message es) (elements_of (flags_at t (process_of e) arity_flag) e)
      ∙ ap (λ b. evaluation_lines s e ++ reported_lines true b (message_after t e es)) (sym (still_silent t e es))

  message_is : (r : Option (List Effect)) → effects_of s e ≡ r → message_lines s e (cause_of s e) (reported_for s e r).1
      ≡ lines_by_effects s e r ++ reported_lines (is_some r) (is_silenced (reported_for s e r).0 e) (reported_for s e r).1
  message_is None h = sym (append-nil (message_lines s e (cause_of s e) None))
  message_is (Some es) h = ap (λ o. message_lines s e o (reported_for s e (Some es)).1) (cause_is s e es h) ∙ message_done es

-- ---- an event by which no process inherits flags

stays : (s : Session) (e : Event) → both_of e ≡ None → (inheritance_lines s e ≡ []) × (inherit s e ≡ s)
stays s (spawned child parent f args) h = absurd (cc h)
stays s (getting_linked p linker) h = absurd (cc h)
stays s (sent p t to alive) h = (refl, refl)
stays s (received p sender t) h = (refl, refl)
stays s (called p c) h = (refl, refl)
stays s (returned p f t depth) h = (refl, refl)
stays s (raised p f c t depth) h = (refl, refl)
stays s (spawning p child f args) h = (refl, refl)
stays s (exited p r) h = (refl, refl)
stays s (linked p q) h = (refl, refl)
stays s (unlinked p q) h = (refl, refl)
stays s (getting_unlinked p q) h = (refl, refl)

pub told_is : (s : Session) (e : Event) → s.phase ≡ live → both_of e ≡ None → event_reported s e ≡ reported_for s e (effects_of s e)
told_is s e phase none = ap (λ p. reported_in p s e) phase ∙ ap (λ t. reported_for t e (effects_of t e)) (stays s e none).1

-- its lines
pub parts_are : (s : Session) (l : Outlook) (e : Event) → s.phase ≡ live → both_of e ≡ None
    → event_lines s l e ≡ ((lines_before s e ++ reported_lines (is_some (effects_of s e)) (is_silenced (event_reported s e).0 e) (event_reported s e).1) ++ lines_after s e) ++ node_lines s l e
parts_are s l e phase none =
    let st : (inheritance_lines s e ≡ []) × (inherit s e ≡ s) = stays s e none in
    let ds : List Line = node_lines s l e in
    ap (λ p. event_lines_in p s l e) phase
    ∙ ap (λ ks. (ks ++ live_lines (inherit s e) e) ++ ds) st.0
    ∙ ap (λ t. live_lines t e ++ ds) st.1
    ∙ ap (λ ks. (ks ++ lines_after s e) ++ ds) (message_is s e (effects_of s e) refl)
    ∙ ap (λ a. ((lines_before s e ++ reported_lines (is_some (effects_of s e)) (is_silenced a.0 e) a.1) ++ lines_after s e) ++ ds) (sym (told_is s e phase none))

-- ---- an event by which one does

-- the flags of both, the message or that there is no flag for it, and what a node does otherwise; the flags are those that the session has afterwards
pub record Inherits (s : Session) (l : Outlook) (e : Event) (giver taker : ℕ) : Type 0 where
  pub lines : event_lines s l e ≡ ((flag_lines giver s (event_reported s e).0 ++ flag_lines taker s (event_reported s e).0) ++ reported_or_no_flag (event_reported s e).1) ++ node_lines s l e
  pub difference : inherited_by_flags e (flags_at s giver) (flags_at (event_reported s e).0 giver) (flags_at s taker) (flags_at (event_reported s e).0 taker) ≡ event_difference s e
  pub node : map differs (option_to_list (event_difference s e)) ≡ node_lines s l e

inherits_in : (s : Session) (l : Outlook) (e : Event) (giver taker : ℕ)
    → inheritance_lines s e ≡ flag_lines giver s (inherit s e) ++ flag_lines taker s (inherit s e)
    → inherited_by_flags e (flags_at s giver) (flags_at (inherit s e) giver) (flags_at s taker) (flags_at (inherit s e) taker) ≡ event_difference s e
    → map differs (option_to_list (event_difference s e)) ≡ node_lines s l e
    → live_lines (inherit s e) e ≡ reported_or_no_flag (reported_in live s e).1 → (reported_in live s e).0 ≡ inherit s e → s.phase ≡ live → Inherits s l e giver taker
inherits_in s l e giver taker lines difference node rest same phase =
    let reported : reported_in live s e ≡ event_reported s e = sym (ap (λ p. reported_in p s e) phase) in
    let ds : List Line = node_lines s l e in
    record {
      lines =
          ap (λ p. event_lines_in p s l e) phase
          ∙ ap (λ ks. (ks ++ live_lines (inherit s e) e) ++ ds) lines
          ∙ ap (λ ks. ((flag_lines giver s (inherit s e) ++ flag_lines taker s (inherit s e)) ++ ks) ++ ds) rest
          ∙ ap (λ t. ((flag_lines giver s t ++ flag_lines taker s t) ++ reported_or_no_flag (reported_in live s e).1) ++ ds) (sym same)
          ∙ ap (λ a. ((flag_lines giver s a.0 ++ flag_lines taker s a.0) ++ reported_or_no_flag a.1) ++ ds) reported;
      node = node;
      difference = ap (λ t. inherited_by_flags e (flags_at s giver) (flags_at t giver) (flags_at s taker) (flags_at t taker)) (sym (sym same ∙ ap (λ a. a.0) reported)) ∙ difference;
    }

-- where its process has the flag there is a message
module _ (t : Session) (e : Event) where
  abbrev effects_if : Bool → Option (List Effect)
  effects_if b = if b then Some [] else None

  abbrev lines_if : Bool → List Line
  lines_if b = message_lines t e (if b then cause_by t e (effects_if b) else Some (no_flag procs_flag)) (reported_for t e (effects_if b)).1 ++ (mark_lines t e ++ end_lines t e)

  abbrev IsToldIf : Bool → Type 0
  IsToldIf b = (lines_if b ≡ reported_or_no_flag (reported_for t e (effects_if b)).1) × ((reported_for t e (effects_if b)).0 ≡ t)

spawned_if : (t : Session) (child parent : ℕ) (f : Mfa) (args : List Tree) (b : Bool) → IsToldIf t (spawned child parent f args) b
spawned_if t child parent f args true = (refl, refl)
spawned_if t child parent f args false = (ap (λ x. said x ∷ []) no_procs, refl)

linked_if : (t : Session) (p linker : ℕ) (b : Bool) → IsToldIf t (getting_linked p linker) b
linked_if t p linker true = (refl, refl)
linked_if t p linker false = (ap (λ x. said x ∷ []) no_procs, refl)

pub inherits : (s : Session) (l : Outlook) (e : Event) (giver taker : ℕ) → s.phase ≡ live → both_of e ≡ Some (giver, taker) → Inherits s l e giver taker
inherits s l (spawned child parent f args) giver taker phase both =
    let e : Event = spawned child parent f args in
    let t : Session = inherit s e in
    let reported : IsToldIf t e (flags_at t child procs_flag) = spawned_if t child parent f args (flags_at t child procs_flag) in
    let same : (parent, child) ≡ (giver, taker) = cc both in
    subst (λ (x : ℕ × ℕ). Inherits s l e x.0 x.1) same (inherits_in s l e parent child refl refl refl reported.0 reported.1 phase)
inherits s l (getting_linked p linker) giver taker phase both =
    let e : Event = getting_linked p linker in
    let t : Session = inherit s e in
    let reported : IsToldIf t e (flags_at t p procs_flag) = linked_if t p linker (flags_at t p procs_flag) in
    let same : (linker, p) ≡ (giver, taker) = cc both in
    subst (λ (x : ℕ × ℕ). Inherits s l e x.0 x.1) same (inherits_in s l e linker p refl refl refl reported.0 reported.1 phase)
inherits s l (sent p t to alive) giver taker phase both = absurd (cc both)
inherits s l (received p sender t) giver taker phase both = absurd (cc both)
inherits s l (called p c) giver taker phase both = absurd (cc both)
inherits s l (returned p f t depth) giver taker phase both = absurd (cc both)
inherits s l (raised p f c t depth) giver taker phase both = absurd (cc both)
inherits s l (spawning p child f args) giver taker phase both = absurd (cc both)
inherits s l (exited p r) giver taker phase both = absurd (cc both)
inherits s l (linked p q) giver taker phase both = absurd (cc both)
inherits s l (unlinked p q) giver taker phase both = absurd (cc both)
inherits s l (getting_unlinked p q) giver taker phase both = absurd (cc both)

-- ---- a session that isn't live

-- makes nothing of an event
pub makes_nothing : (s : Session) (l : Outlook) (e : Event) → is_live s.phase ≡ false → event_lines s l e ≡ []
makes_nothing s l e h = go s.phase h
  where
    go : (p : Phase) → is_live p ≡ false → event_lines_in p s l e ≡ []
    go absent f = refl
    go destroyed f = refl
    go live f = absurd (cc f)

pub is_in_phase : (p : Phase) → is_live p ≡ true → p ≡ live
is_in_phase absent f = absurd (cc f)
is_in_phase destroyed f = absurd (cc f)
is_in_phase live f = refl

-- ---- evaluations of the code

pub done_is : (r : Evaluation) (o : Option (List Effect)) → marks_seen_by r ≡ option_map mark_asked o → is_done r ≡ is_some o
done_is Refused None h = refl
done_is Refused (Some es) h = absurd (cc h)
done_is (Done m) None h = absurd (cc h)
done_is (Done m) (Some es) h = refl

pub mark_is : (r : Evaluation) (o : Option (List Effect)) → marks_seen_by r ≡ option_map mark_asked o → mark_by r ≡ mark_asked (unwrap_or o [])
mark_is Refused None h = refl
mark_is Refused (Some es) h = absurd (cc h)
mark_is (Done m) None h = absurd (cc h)
mark_is (Done m) (Some es) h = cc h

-- ---- what is said of a process

not_zero : (n : ℕ) → false ≡ (suc n == 0)
not_zero n = grind (arith, nat_tests)

pub where_empty : (p : ℕ) (text : List ℕ) → (length text == 0) ≡ true → line_where p text ≡ []
where_empty p [] h = refl
where_empty p (b ∷ bs) h = absurd (cc (sym h ∙ sym (not_zero (length bs))))

pub where_more : (p : ℕ) (text : List ℕ) → (length text == 0) ≡ false → line_where p text ≡ said (pid_text p ++ text) ∷ []
where_more p [] h = absurd (cc h)
where_more p (b ∷ bs) h = refl
