-- Which mark a call gets, and when a return or an exception is reported.
use Rattle.std.proofs.Common.{◌≡◌, ◌≢◌, ◌<◌, ℕ, zero, suc, ◌-◌, List, [], ◌∷◌, length, Bool, true, false, not, ◌&&◌, if◌then◌else◌, refl, ap, ◌∙◌, Option, Some, None, eq-eqb, arith}
use Rattle.std.specs.Prelude.{slice_get, slice_set}
use Rattle.std.specs.Option.{unwrap_or, is_some}
use Rattle.std.proofs.lemmas.List.Elements.{All-head, All-tail}
use Rattle.def_term.specs.Tree.{Tree}
use Rattle.def_term.specs.Names.{Mfa}
use Rattle.def_script.specs.Program.{Class}
use Rattle.def_term.specs.Alive.{FIRST_PID}
use Rattle.def_node.specs.Event.{Event, called, returned, raised}
use Rattle.def_spec.specs.Flags.{call_flag, silent_flag, arity_flag}
use Rattle.def_spec.specs.Expressions.{Effect, gives_message, traces_return, traces_exception, silences, changes}
use Rattle.def_session.specs.State.{Phase, absent, live, destroyed, MarkKind, for_returns, for_exceptions, Mark, Session, flags_at, marks_at, kind_among, mark_of}
use Rattle.def_session.specs.Messages.{elements_of, process_of, message_by}
use Rattle.def_session.specs.Session.{is_for_exceptions, where_marked, all_affected, or_for_returns, mark_asked, is_silenced, mark_frame, reported_for, reported_in}
use Rattle.def_session.specs.Laws.{Lacks, ExceptionTraceMarks, ReturnTraceMarks, OtherEffectsMarkNothing, CallIsMarked, return_message, exception_message, ExceptionIsTold, NoOtherException, ReturnIsTold, NoOtherReturn}

-- ---- what effects ask for

abbrev OtherThan : Effect → Effect → Type 0
OtherThan e x = x ≢ e

pub exception_trace_marks : ExceptionTraceMarks
exception_trace_marks [] behind = refl
exception_trace_marks (gives_message t ∷ es) behind = exception_trace_marks es behind
exception_trace_marks (traces_return ∷ es) behind = ap or_for_returns (exception_trace_marks es behind)
exception_trace_marks (traces_exception ∷ es) behind = refl
exception_trace_marks (silences b ∷ es) behind = exception_trace_marks es behind
exception_trace_marks (changes n off on ∷ es) behind = exception_trace_marks es behind

-- without exception_trace nothing but a mark for returns is asked for
abbrev AsksAtMostForReturns : List Effect → Type 0
AsksAtMostForReturns es = or_for_returns (mark_asked es) ≡ Some for_returns

for_returns_at_most : (es : List Effect) → Lacks traces_exception es → AsksAtMostForReturns es
for_returns_at_most [] h = refl
for_returns_at_most (gives_message t ∷ es) h = for_returns_at_most es (All-tail (OtherThan traces_exception) (gives_message t) es h)
for_returns_at_most (traces_return ∷ es) h =
    let rest : AsksAtMostForReturns es = for_returns_at_most es (All-tail (OtherThan traces_exception) traces_return es h) in
    ap or_for_returns rest
for_returns_at_most (traces_exception ∷ es) h = absurd (All-head (OtherThan traces_exception) traces_exception es h refl)
for_returns_at_most (silences b ∷ es) h = for_returns_at_most es (All-tail (OtherThan traces_exception) (silences b) es h)
for_returns_at_most (changes n off on ∷ es) h = for_returns_at_most es (All-tail (OtherThan traces_exception) (changes n off on) es h)

pub return_trace_marks : ReturnTraceMarks
return_trace_marks [] behind h k = for_returns_at_most behind k
return_trace_marks (gives_message t ∷ es) behind h k = return_trace_marks es behind (All-tail (OtherThan traces_exception) (gives_message t) es h) k
return_trace_marks (traces_return ∷ es) behind h k = ap or_for_returns (return_trace_marks es behind (All-tail (OtherThan traces_exception) traces_return es h) k)
return_trace_marks (traces_exception ∷ es) behind h k = absurd (All-head (OtherThan traces_exception) traces_exception es h refl)
return_trace_marks (silences b ∷ es) behind h k = return_trace_marks es behind (All-tail (OtherThan traces_exception) (silences b) es h) k
return_trace_marks (changes n off on ∷ es) behind h k = return_trace_marks es behind (All-tail (OtherThan traces_exception) (changes n off on) es h) k

pub other_effects_mark_nothing : OtherEffectsMarkNothing
other_effects_mark_nothing [] h k = refl
other_effects_mark_nothing (gives_message t ∷ es) h k = other_effects_mark_nothing es (All-tail (OtherThan traces_return) (gives_message t) es h) (All-tail (OtherThan traces_exception) (gives_message t) es k)
other_effects_mark_nothing (traces_return ∷ es) h k = absurd (All-head (OtherThan traces_return) traces_return es h refl)
other_effects_mark_nothing (traces_exception ∷ es) h k = absurd (All-head (OtherThan traces_exception) traces_exception es k refl)
other_effects_mark_nothing (silences b ∷ es) h k = other_effects_mark_nothing es (All-tail (OtherThan traces_return) (silences b) es h) (All-tail (OtherThan traces_exception) (silences b) es k)
other_effects_mark_nothing (changes n off on ∷ es) h k = other_effects_mark_nothing es (All-tail (OtherThan traces_return) (changes n off on) es h) (All-tail (OtherThan traces_exception) (changes n off on) es k)

-- ---- the mark of a call

set_there : {X : Type 0} (xs : List X) (i : ℕ) (x d : X) → i < length xs → unwrap_or (slice_get (slice_set xs i x) i) d ≡ x
set_there [] i x d h = absurd (omega (arith, h))
set_there (y ∷ xs) zero x d h = refl
set_there (y ∷ xs) (suc i) x d h = set_there xs i x d (omega (arith, h))

newest_is : (m : Mark) (ms : List Mark) → kind_among (m ∷ ms) m.depth ≡ Some m.kind
newest_is m ms = ap (λ b. if b then Some m.kind else kind_among ms m.depth) (eq-eqb m.depth m.depth refl)

marked_so : (s : Session) (p depth : ℕ) (k : MarkKind) → p - FIRST_PID < length s.marks → mark_of (mark_frame s p depth (Some k)) p depth ≡ Some k
marked_so s p depth k h =
    let m : Mark = record { depth = depth; kind = k } in
    ap (λ ms. kind_among ms depth) (set_there s.marks (p - FIRST_PID) (m ∷ marks_at s p) [] h) ∙ newest_is m (marks_at s p)

pub call_is_marked : CallIsMarked
call_is_marked s p c es k h here is asks =
    let t : Session = all_affected p s es in
    ap (λ x. mark_of (reported_in x s (called p c)).0 p c.depth) h
    ∙ ap (λ r. mark_of (reported_for s (called p c) r).0 p c.depth) is
    ∙ ap (λ o. mark_of (mark_frame t p c.depth o) p c.depth) asks
    ∙ marked_so t p c.depth k here

-- ---- what is reported of a frame

-- where the mark is for it
abbrev when : Bool → Session → ℕ → Option (List Effect)
when b s p = where_marked s p b

told_if : (s : Session) (e : Event) (m : Tree) (flag silent : Bool) → is_silenced s e ≡ silent → message_by None (elements_of (flags_at s (process_of e) arity_flag) e) ≡ Some m
    → (reported_for s e (if flag then Some [] else None)).1 ≡ (if flag && not silent then Some m else None)
told_if s e m false silent is message = refl
told_if s e m true true is message = ap (λ b. if b then None else message_by None (elements_of (flags_at s (process_of e) arity_flag) e)) is
told_if s e m true false is message = ap (λ b. if b then None else message_by None (elements_of (flags_at s (process_of e) arity_flag) e)) is ∙ message

pub exception_is_told : ExceptionIsTold
exception_is_told s p f c t depth h k =
    let e : Event = raised p f c t depth in
    ap (λ x. (reported_in x s e).1) h
    ∙ ap (λ o. (reported_for s e (when (is_for_exceptions o) s p)).1) k
    ∙ told_if s e (exception_message p f c t) (flags_at s p call_flag) (flags_at s p silent_flag) refl refl

pub return_is_told : ReturnIsTold
return_is_told s p f t depth kind h k =
    let e : Event = returned p f t depth in
    ap (λ x. (reported_in x s e).1) h
    ∙ ap (λ o. (reported_for s e (when (is_some o) s p)).1) k
    ∙ told_if s e (return_message p f t) (flags_at s p call_flag) (flags_at s p silent_flag) refl refl

not_for_exceptions : (o : Option MarkKind) → o ≢ Some for_exceptions → is_for_exceptions o ≡ false
not_for_exceptions None h = refl
not_for_exceptions (Some for_returns) h = refl
not_for_exceptions (Some for_exceptions) h = absurd (h refl)

no_exception_in : (x : Phase) (s : Session) (p : ℕ) (f : Mfa) (c : Class) (t : Tree) (depth : ℕ) → mark_of s p depth ≢ Some for_exceptions → (reported_in x s (raised p f c t depth)).1 ≡ None
no_exception_in absent s p f c t depth h = refl
no_exception_in destroyed s p f c t depth h = refl
no_exception_in live s p f c t depth h = ap (λ b. (reported_for s (raised p f c t depth) (when b s p)).1) (not_for_exceptions (mark_of s p depth) h)

pub no_other_exception : NoOtherException
no_other_exception s p f c t depth h = no_exception_in s.phase s p f c t depth h

no_return_in : (x : Phase) (s : Session) (p : ℕ) (f : Mfa) (t : Tree) (depth : ℕ) → mark_of s p depth ≡ None → (reported_in x s (returned p f t depth)).1 ≡ None
no_return_in absent s p f t depth h = refl
no_return_in destroyed s p f t depth h = refl
no_return_in live s p f t depth h = ap (λ o. (reported_for s (returned p f t depth) (when (is_some o) s p)).1) h

pub no_other_return : NoOtherReturn
no_other_return s p f t depth h = no_return_in s.phase s p f t depth h
