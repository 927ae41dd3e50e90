-- Where no call is silent, the frames of a session of a node are marked as those of one here.
use Rattle.std.proofs.Common.{◌≡◌, ◌≢◌, ◌≤◌, ◌⊎◌, inl, inr, ℕ, zero, suc, ◌-◌, List, [], ◌∷◌, slice_get, slice_set, unwrap_or, Option, Some, None, refl, ap, sym, subst, ◌∙◌, if◌then◌else◌}
use Rattle.std.proofs.lemmas.Bool.{cases_eq, ne_eqb}
use Rattle.def_term.specs.Alive.{FIRST_PID}
use Rattle.def_spec.specs.Expressions.{Effect}
use Rattle.def_node.specs.Event.{Event, Call, sent, received, called, returned, raised, spawning, spawned, exited, linked, unlinked, getting_linked, getting_unlinked}
use Rattle.def_session.specs.State.{Phase, absent, live, destroyed, MarkKind, Mark, Session, kind_among, mark_of}
use Rattle.def_session.specs.Messages.{process_of}
use Rattle.def_session.specs.Session.{inherit, effects_of, all_affected, mark_asked, mark_frame, finish, reported_for, reported_in, event_reported}
use Rattle.def_session.proofs.Ends.{return_ends_the_mark, return_ends_no_other_mark, raise_ends_the_mark, raise_ends_no_other_mark, exit_ends_the_marks, marks_of_others_stay}
use Rattle.def_running_node.specs.NodeSessions.{NodeMark, NodeSession, kind_at, marks_after, new_flags_for, with_new_flags, reported_there}
use Rattle.def_running_node.specs.Laws.{CallsFrame, EndsFrame, HasSameMarks, IsMarkedAlike, SameMarksThere}
use Rattle.def_running_node.proofs.Marks.{call_has_its_mark, ended_frame_has_no_mark, other_frame_has_its_mark, no_mark_without_call}

-- ---- frames that an event neither calls nor ends

kind-stays : (t : Session) (ms : List NodeMark) (e : Event) (p depth : ℕ) → (CallsFrame e p depth → ⊥) → (EndsFrame e p depth → ⊥) → kind_at (marks_after t ms e) p depth ≡ kind_at ms p depth
kind-stays t ms e p depth no_call no_end = go (kind_at ms p depth) refl
  where
    go : (o : Option MarkKind) → kind_at ms p depth ≡ o → kind_at (marks_after t ms e) p depth ≡ kind_at ms p depth
    go None h = no_mark_without_call t ms e p depth no_call h ∙ sym h
    go (Some k) h = other_frame_has_its_mark t ms e p depth k no_end h ∙ sym h

-- those of another process
calls-no-other : (e : Event) (p depth : ℕ) → process_of e ≢ p → CallsFrame e p depth → ⊥
calls-no-other (called q c) p depth apart h = apart h.0
calls-no-other (returned q f v d) p depth apart h = h
calls-no-other (raised q f c v d) p depth apart h = h
calls-no-other (exited q x) p depth apart h = h
calls-no-other (sent q x to alive) p depth apart h = h
calls-no-other (received q sender x) p depth apart h = h
calls-no-other (spawning q child f args) p depth apart h = h
calls-no-other (spawned q parent f args) p depth apart h = h
calls-no-other (linked q other) p depth apart h = h
calls-no-other (unlinked q other) p depth apart h = h
calls-no-other (getting_linked q other) p depth apart h = h
calls-no-other (getting_unlinked q other) p depth apart h = h

ends-no-other : (e : Event) (p depth : ℕ) → process_of e ≢ p → EndsFrame e p depth → ⊥
ends-no-other (called q c) p depth apart h = h
ends-no-other (returned q f v d) p depth apart h = apart h.0
ends-no-other (raised q f c v d) p depth apart h = apart h.0
ends-no-other (exited q x) p depth apart h = apart h
ends-no-other (sent q x to alive) p depth apart h = h
ends-no-other (received q sender x) p depth apart h = h
ends-no-other (spawning q child f args) p depth apart h = h
ends-no-other (spawned q parent f args) p depth apart h = h
ends-no-other (linked q other) p depth apart h = h
ends-no-other (unlinked q other) p depth apart h = h
ends-no-other (getting_linked q other) p depth apart h = h
ends-no-other (getting_unlinked q other) p depth apart h = h

-- ---- a call, and the other frames of its process

read-more : (xs : List (List Mark)) (i : ℕ) (m : Mark) (depth : ℕ) → (m.depth ≡ depth → ⊥)
    → kind_among (unwrap_or (slice_get (slice_set xs i (m ∷ unwrap_or (slice_get xs i) [])) i) []) depth ≡ kind_among (unwrap_or (slice_get xs i) []) depth
read-more [] i m depth apart = refl
read-more (x ∷ xs) zero m depth apart = ap (λ b. if b then Some m.kind else kind_among x depth) (ne_eqb m.depth depth apart)
read-more (x ∷ xs) (suc i) m depth apart = read-more xs i m depth apart

mark-of-call : (s : Session) (p depth other : ℕ) (k : Option MarkKind) → (depth ≡ other → ⊥) → mark_of (mark_frame s p depth k) p other ≡ mark_of s p other
mark-of-call s p depth other None apart = refl
mark-of-call s p depth other (Some k) apart = read-more s.marks (p - FIRST_PID) (record { depth = depth; kind = k }) other apart

call-marks-no-other : (s : Session) (p : ℕ) (c : Call) (other : ℕ) → (c.depth ≡ other → ⊥) → mark_of (event_reported s (called p c)).0 p other ≡ mark_of s p other
call-marks-no-other s p c other apart = go s.phase
  where
    by-effects : (o : Option (List Effect)) → mark_of (reported_for s (called p c) o).0 p other ≡ mark_of s p other
    by-effects None = refl
    by-effects (Some es) = mark-of-call (all_affected p s es) p c.depth other (mark_asked es) apart

    go : (x : Phase) → mark_of (reported_in x s (called p c)).0 p other ≡ mark_of s p other
    go absent = refl
    go destroyed = refl
    go live = by-effects (effects_of s (called p c))

-- ---- events that mark nothing

-- an event after which no mark is changed
abbrev ChangesNoMark : Event → Type 0
ChangesNoMark e = (s : Session) (es : List Effect) → (finish s e es).marks ≡ s.marks

marks-after-effects : (s : Session) (e : Event) (o : Option (List Effect)) → ChangesNoMark e → (reported_for s e o).0.marks ≡ s.marks
marks-after-effects s e None h = h s []
marks-after-effects s e (Some es) h = h (all_affected (process_of e) s es) es

marks-stay : (x : Phase) (s : Session) (e : Event) → ChangesNoMark e → (inherit s e).marks ≡ s.marks → (reported_in x s e).0.marks ≡ s.marks
marks-stay absent s e h k = refl
marks-stay destroyed s e h k = refl
marks-stay live s e h k = marks-after-effects (inherit s e) e (effects_of (inherit s e) e) h ∙ k

-- of one process
abbrev mark_in : List (List Mark) → ℕ → ℕ → Option MarkKind
mark_in ms p depth = kind_among (unwrap_or (slice_get ms (p - FIRST_PID)) []) depth

-- ---- the process of the event

module _ (s : NodeSession) (h : HasSameMarks s) where
  -- the session in which the event is reported, and the session afterwards
  abbrev during : Event → Session
  during e = with_new_flags (new_flags_for s.session e) s.session

  abbrev afterwards : Event → Session
  afterwards e = (reported_there s.session e).0

  -- where no mark is changed
  unchanged : (e : Event) (p depth : ℕ) → FIRST_PID ≤ p → ChangesNoMark e → (inherit (during e) e).marks ≡ s.session.marks → kind_at s.marks p depth ≡ mark_of (afterwards e) p depth
  unchanged e p depth here g k = h p depth here ∙ sym (ap (λ ms. mark_in ms p depth) (marks-stay s.session.phase (during e) e g k))

  of-process : (e : Event) (depth : ℕ) → s.session.phase ≡ live → FIRST_PID ≤ process_of e → IsMarkedAlike s e
      → kind_at (marks_after (afterwards e) s.marks e) (process_of e) depth ≡ mark_of (afterwards e) (process_of e) depth
  of-process (called p c) depth lives here alike = go (cases_eq c.depth depth)
    where
      go : (c.depth ≡ depth) ⊎ (c.depth ≡ depth → ⊥) → kind_at (marks_after (afterwards (called p c)) s.marks (called p c)) p depth ≡ mark_of (afterwards (called p c)) p depth
      go (inl is) =
          ap (λ n. kind_at (marks_after (afterwards (called p c)) s.marks (called p c)) p n) (sym is)
          ∙ call_has_its_mark (afterwards (called p c)) s.marks p c alike.0 alike.1
          ∙ ap (λ n. mark_of (afterwards (called p c)) p n) is
      go (inr apart) =
          kind-stays (afterwards (called p c)) s.marks (called p c) p depth (λ k. apart k.1) (λ k. k) ∙ h p depth here ∙ sym (call-marks-no-other s.session p c depth apart)
  of-process (returned p f v d) depth lives here alike = go (cases_eq depth d)
    where
      go : (depth ≡ d) ⊎ (depth ≡ d → ⊥) → kind_at (marks_after (afterwards (returned p f v d)) s.marks (returned p f v d)) p depth ≡ mark_of (afterwards (returned p f v d)) p depth
      go (inl is) =
          ended_frame_has_no_mark (afterwards (returned p f v d)) s.marks (returned p f v d) p depth (refl, sym is)
          ∙ sym (ap (λ n. mark_of (afterwards (returned p f v d)) p n) is ∙ return_ends_the_mark s.session p f v d lives)
      go (inr apart) =
          kind-stays (afterwards (returned p f v d)) s.marks (returned p f v d) p depth (λ k. k) (λ k. apart (sym k.1)) ∙ h p depth here ∙ sym (return_ends_no_other_mark s.session p f v d depth apart)
  of-process (raised p f c v d) depth lives here alike = go (cases_eq depth d)
    where
      go : (depth ≡ d) ⊎ (depth ≡ d → ⊥) → kind_at (marks_after (afterwards (raised p f c v d)) s.marks (raised p f c v d)) p depth ≡ mark_of (afterwards (raised p f c v d)) p depth
      go (inl is) =
          ended_frame_has_no_mark (afterwards (raised p f c v d)) s.marks (raised p f c v d) p depth (refl, sym is)
          ∙ sym (ap (λ n. mark_of (afterwards (raised p f c v d)) p n) is ∙ raise_ends_the_mark s.session p f c v d lives)
      go (inr apart) =
          kind-stays (afterwards (raised p f c v d)) s.marks (raised p f c v d) p depth (λ k. k) (λ k. apart (sym k.1)) ∙ h p depth here ∙ sym (raise_ends_no_other_mark s.session p f c v d depth apart)
  of-process (exited p x) depth lives here alike =
      ended_frame_has_no_mark (afterwards (exited p x)) s.marks (exited p x) p depth refl ∙ sym (exit_ends_the_marks s.session p x depth lives)
  of-process (sent p x to alive) depth lives here alike = unchanged (sent p x to alive) p depth here (λ t es. refl) refl
  of-process (received p sender x) depth lives here alike = unchanged (received p sender x) p depth here (λ t es. refl) refl
  of-process (spawning p child f args) depth lives here alike = unchanged (spawning p child f args) p depth here (λ t es. refl) refl
  of-process (spawned p parent f args) depth lives here alike = unchanged (spawned p parent f args) p depth here (λ t es. refl) refl
  of-process (linked p q) depth lives here alike = unchanged (linked p q) p depth here (λ t es. refl) refl
  of-process (unlinked p q) depth lives here alike = unchanged (unlinked p q) p depth here (λ t es. refl) refl
  of-process (getting_linked p q) depth lives here alike = unchanged (getting_linked p q) p depth here (λ t es. refl) refl
  of-process (getting_unlinked p q) depth lives here alike = unchanged (getting_unlinked p q) p depth here (λ t es. refl) refl

  -- of another
  of-other : (e : Event) (p depth : ℕ) → FIRST_PID ≤ process_of e → FIRST_PID ≤ p → process_of e ≢ p → kind_at (marks_after (afterwards e) s.marks e) p depth ≡ mark_of (afterwards e) p depth
  of-other e p depth of_event here apart =
      kind-stays (afterwards e) s.marks e p depth (calls-no-other e p depth apart) (ends-no-other e p depth apart) ∙ h p depth here ∙ sym (marks_of_others_stay (during e) e p depth of_event here apart)

pub same_marks_there : SameMarksThere
same_marks_there s e lives of_event alike h p depth here = go (cases_eq (process_of e) p)
  where
    go : (process_of e ≡ p) ⊎ (process_of e ≡ p → ⊥) → kind_at (marks_after (reported_there s.session e).0 s.marks e) p depth ≡ mark_of (reported_there s.session e).0 p depth
    go (inl is) =
        subst (λ q. kind_at (marks_after (reported_there s.session e).0 s.marks e) q depth ≡ mark_of (reported_there s.session e).0 q depth) is (of-process s h e depth lives of_event alike)
    go (inr apart) = of-other s h e p depth of_event here apart
