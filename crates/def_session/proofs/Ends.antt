-- What is gone after a return, after an exception that leaves a frame and after an exit, and what stays.
use Rattle.std.proofs.Common.{◌≡◌, ◌≢◌, ◌≤◌, ℕ, zero, suc, ◌-◌, ◌==◌, List, [], ◌∷◌, Bool, true, false, not, if◌then◌else◌, refl, ap, sym, ◌∙◌, arith, Option, Some, None}
use Rattle.std.specs.Prelude.{slice_get, slice_set, filter}
use Rattle.std.specs.Option.{unwrap_or}
use Rattle.std.proofs.lemmas.Bool.{eqb-true, ne_eqb}
use Rattle.def_term.specs.Tree.{Tree}
use Rattle.def_term.specs.Names.{Mfa}
use Rattle.def_term.specs.Alive.{FIRST_PID, with_alive}
use Rattle.def_script.specs.Program.{Class}
use Rattle.def_node.specs.Event.{Event, called, returned, raised, spawned, exited, getting_linked}
use Rattle.def_spec.specs.Flags.{no_flags, procs_flag, call_flag}
use Rattle.def_spec.specs.Expressions.{Effect}
use Rattle.def_session.specs.State.{Phase, absent, live, destroyed, MarkKind, Mark, Session, flags_at, with_flags, marks_at, with_marks, kind_among, mark_of}
use Rattle.def_session.specs.Messages.{process_of}
use Rattle.def_session.specs.Session.{is_marked, is_marked_for_exceptions, inherit, effects_of, all_affected, mark_asked, mark_frame, unmark_frame, finish, reported_for, reported_in, event_reported}
use Rattle.def_session.specs.Laws.{ReturnEndsTheMark, ReturnEndsNoOtherMark, RaiseEndsTheMark, RaiseEndsNoOtherMark, ExitEndsTheFlags, ExitEndsTheMarks, MarksOfOthersStay, ExitEndsTheLife}

without_effects : (s : Session) (e : Event) (a b : Bool) → (reported_for s e (if a then (if b then Some [] else None) else None)).0 ≡ finish s e []
without_effects s e true true = refl
without_effects s e true false = refl
without_effects s e false b = refl

after_exit : (s : Session) (p : ℕ) (r : Tree) → s.phase ≡ live → (event_reported s (exited p r)).0 ≡ finish s (exited p r) []
after_exit s p r h = ap (λ x. (reported_in x s (exited p r)).0) h ∙ without_effects s (exited p r) true (flags_at s p procs_flag)

after_return_live : (s : Session) (p : ℕ) (f : Mfa) (t : Tree) (depth : ℕ) → (reported_in live s (returned p f t depth)).0 ≡ finish s (returned p f t depth) []
after_return_live s p f t depth = without_effects s (returned p f t depth) (is_marked s p depth) (flags_at s p call_flag)

after_raise_live : (s : Session) (p : ℕ) (f : Mfa) (c : Class) (t : Tree) (depth : ℕ) → (reported_in live s (raised p f c t depth)).0 ≡ finish s (raised p f c t depth) []
after_raise_live s p f c t depth = without_effects s (raised p f c t depth) (is_marked_for_exceptions s p depth) (flags_at s p call_flag)

after_raise : (s : Session) (p : ℕ) (f : Mfa) (c : Class) (t : Tree) (depth : ℕ) → s.phase ≡ live → (event_reported s (raised p f c t depth)).0 ≡ finish s (raised p f c t depth) []
after_raise s p f c t depth h = ap (λ x. (reported_in x s (raised p f c t depth)).0) h ∙ after_raise_live s p f c t depth

after_return : (s : Session) (p : ℕ) (f : Mfa) (t : Tree) (depth : ℕ) → s.phase ≡ live → (event_reported s (returned p f t depth)).0 ≡ finish s (returned p f t depth) []
after_return s p f t depth h = ap (λ x. (reported_in x s (returned p f t depth)).0) h ∙ after_return_live s p f t depth

-- ---- at one place

none_there : {X : Type 0} (xs : List X) (i : ℕ) (d : X) → unwrap_or (slice_get (slice_set xs i d) i) d ≡ d
none_there [] i d = refl
none_there (x ∷ xs) zero d = refl
none_there (x ∷ xs) (suc i) d = none_there xs i d

kept_there : (keeps : Mark → Bool) (xs : List (List Mark)) (i : ℕ) → unwrap_or (slice_get (slice_set xs i (filter keeps (unwrap_or (slice_get xs i) []))) i) [] ≡ filter keeps (unwrap_or (slice_get xs i) [])
kept_there keeps [] i = refl
kept_there keeps (x ∷ xs) zero = refl
kept_there keeps (x ∷ xs) (suc i) = kept_there keeps xs i

-- ---- what is gone

marks_left : (s : Session) (p : ℕ) (keeps : Mark → Bool) → marks_at (with_marks s p (filter keeps (marks_at s p))) p ≡ filter keeps (marks_at s p)
marks_left s p keeps = kept_there keeps s.marks (p - 100)

-- those that a frame of this depth leaves
abbrev others : ℕ → Mark → Bool
others depth m = not (m.depth == depth)

none_of_it : (ms : List Mark) (depth : ℕ) → kind_among (filter (others depth) ms) depth ≡ None
none_of_it [] depth = refl
none_of_it (m ∷ ms) depth = go (m.depth == depth) refl (none_of_it ms depth)
  where
    go : (b : Bool) → (m.depth == depth) ≡ b → kind_among (filter (others depth) ms) depth ≡ None → kind_among (if not b then m ∷ filter (others depth) ms else filter (others depth) ms) depth ≡ None
    go true is rest = rest
    go false is rest = ap (λ b. if b then Some m.kind else kind_among (filter (others depth) ms) depth) is ∙ rest

unmarked_ends : (s : Session) (p depth : ℕ) → mark_of (unmark_frame s p depth) p depth ≡ None
unmarked_ends s p depth = ap (λ ms. kind_among ms depth) (marks_left s p (others depth)) ∙ none_of_it (marks_at s p) depth

pub return_ends_the_mark : ReturnEndsTheMark
return_ends_the_mark s p f t depth h = ap (λ x. mark_of x p depth) (after_return s p f t depth h) ∙ unmarked_ends s p depth

pub raise_ends_the_mark : RaiseEndsTheMark
raise_ends_the_mark s p f c t depth h = ap (λ x. mark_of x p depth) (after_raise s p f c t depth h) ∙ unmarked_ends s p depth

pub exit_ends_the_flags : ExitEndsTheFlags
exit_ends_the_flags s p r h = ap (λ x. flags_at x p) (after_exit s p r h) ∙ none_there s.flags (p - 100) no_flags

pub exit_ends_the_marks : ExitEndsTheMarks
exit_ends_the_marks s p r depth h =
    ap (λ x. mark_of x p depth) (after_exit s p r h)
    ∙ ap (λ ms. kind_among ms depth) (none_there s.marks (p - 100) [])

pub exit_ends_the_life : ExitEndsTheLife
exit_ends_the_life s p r h = ap (λ x. x.alive) (after_exit s p r h)

-- ---- what stays of the same process

not_equal : (a b d : ℕ) → a ≢ b → (d == b) ≡ true → (d == a) ≡ false
not_equal a b d h e = ne_eqb d a (λ is. h (sym is ∙ eqb-true d b e))

all_others : (ms : List Mark) (depth other : ℕ) → other ≢ depth → kind_among (filter (others depth) ms) other ≡ kind_among ms other
all_others [] depth other h = refl
all_others (m ∷ ms) depth other h = go (m.depth == depth) refl (all_others ms depth other h)
  where
    go : (b : Bool) → (m.depth == depth) ≡ b → kind_among (filter (others depth) ms) other ≡ kind_among ms other
        → kind_among (if not b then m ∷ filter (others depth) ms else filter (others depth) ms) other ≡ kind_among (m ∷ ms) other
    go true is rest = rest ∙ sym (ap (λ b. if b then Some m.kind else kind_among ms other) (not_equal other depth m.depth h is))
    go false is rest = ap (λ k. if m.depth == other then Some m.kind else k) rest

others_stay : (s : Session) (p depth other : ℕ) → other ≢ depth → mark_of (unmark_frame s p depth) p other ≡ mark_of s p other
others_stay s p depth other h = ap (λ ms. kind_among ms other) (marks_left s p (others depth)) ∙ all_others (marks_at s p) depth other h

returned_in : (x : Phase) (s : Session) (p : ℕ) (f : Mfa) (t : Tree) (depth other : ℕ) → other ≢ depth → mark_of (reported_in x s (returned p f t depth)).0 p other ≡ mark_of s p other
returned_in absent s p f t depth other h = refl
returned_in destroyed s p f t depth other h = refl
returned_in live s p f t depth other h = ap (λ x. mark_of x p other) (after_return_live s p f t depth) ∙ others_stay s p depth other h

pub return_ends_no_other_mark : ReturnEndsNoOtherMark
return_ends_no_other_mark s p f t depth other h = returned_in s.phase s p f t depth other h

raised_in : (x : Phase) (s : Session) (p : ℕ) (f : Mfa) (c : Class) (t : Tree) (depth other : ℕ) → other ≢ depth → mark_of (reported_in x s (raised p f c t depth)).0 p other ≡ mark_of s p other
raised_in absent s p f c t depth other h = refl
raised_in destroyed s p f c t depth other h = refl
raised_in live s p f c t depth other h = ap (λ x. mark_of x p other) (after_raise_live s p f c t depth) ∙ others_stay s p depth other h

pub raise_ends_no_other_mark : RaiseEndsNoOtherMark
raise_ends_no_other_mark s p f c t depth other h = raised_in s.phase s p f c t depth other h

-- ---- what stays of other processes

elsewhere : {X : Type 0} (xs : List X) (i k : ℕ) (x : X) → i ≢ k → slice_get (slice_set xs i x) k ≡ slice_get xs k
elsewhere [] i k x h = refl
elsewhere (y ∷ ys) zero zero x h = absurd (h refl)
elsewhere (y ∷ ys) zero (suc k) x h = refl
elsewhere (y ∷ ys) (suc i) zero x h = refl
elsewhere (y ∷ ys) (suc i) (suc k) x h = elsewhere ys i k x (λ e. h (ap suc e))

-- no two of the pids from the first on have one place
apart : (p q : ℕ) → FIRST_PID ≤ p → FIRST_PID ≤ q → p ≢ q → p - FIRST_PID ≢ q - FIRST_PID
apart p q a b h e = h (omega (arith, a, b, e))

with_marks_stay : (s : Session) (p q : ℕ) (ms : List Mark) → p - FIRST_PID ≢ q - FIRST_PID → marks_at (with_marks s p ms) q ≡ marks_at s q
with_marks_stay s p q ms h = ap (λ o. unwrap_or o []) (elsewhere s.marks (p - FIRST_PID) (q - FIRST_PID) ms h)

call_stays : (k : Option MarkKind) (s : Session) (p q depth : ℕ) → p - FIRST_PID ≢ q - FIRST_PID → marks_at (mark_frame s p depth k) q ≡ marks_at s q
call_stays (Some k) s p q depth h = with_marks_stay s p q (record { depth = depth; kind = k } ∷ marks_at s p) h
call_stays None s p q depth h = refl

finished_stays : (s : Session) (e : Event) (es : List Effect) (q : ℕ) → process_of e - FIRST_PID ≢ q - FIRST_PID → marks_at (finish s e es) q ≡ marks_at s q
finished_stays s (called p c) es q h = call_stays (mark_asked es) s p q c.depth h
finished_stays s (returned p f t depth) es q h = with_marks_stay s p q (filter (others depth) (marks_at s p)) h
finished_stays s (raised p f c t depth) es q h = with_marks_stay s p q (filter (others depth) (marks_at s p)) h
finished_stays s (exited p r) es q h = with_marks_stay (with_flags (record s { alive = with_alive s.alive p false }) p no_flags) p q [] h
finished_stays s _ es q h = refl

abbrev those_of : List (List Mark) → ℕ → List Mark
those_of ms q = unwrap_or (slice_get ms (q - FIRST_PID)) []

told_stays : (s : Session) (e : Event) (r : Option (List Effect)) (q : ℕ) → process_of e - FIRST_PID ≢ q - FIRST_PID → marks_at (reported_for s e r).0 q ≡ marks_at s q
told_stays s e None q h = finished_stays s e [] q h
told_stays s e (Some es) q h = finished_stays (all_affected (process_of e) s es) e es q h

inherited_stays : (s : Session) (e : Event) → (inherit s e).marks ≡ s.marks
inherited_stays s (spawned p parent f args) = refl
inherited_stays s (getting_linked p q) = refl
inherited_stays s _ = refl

stay_in : (x : Phase) (s : Session) (e : Event) (q : ℕ) → process_of e - FIRST_PID ≢ q - FIRST_PID → marks_at (reported_in x s e).0 q ≡ marks_at s q
stay_in absent s e q h = refl
stay_in destroyed s e q h = refl
stay_in live s e q h = told_stays (inherit s e) e (effects_of (inherit s e) e) q h ∙ ap (λ ms. those_of ms q) (inherited_stays s e)

pub marks_of_others_stay : MarksOfOthersStay
marks_of_others_stay s e q depth a b h = ap (λ ms. kind_among ms depth) (stay_in s.phase s e q (apart (process_of e) q a b h))
