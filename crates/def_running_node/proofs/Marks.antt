-- Which frames of a node's session have a mark after an event.
use Rattle.std.proofs.Common.{◌≡◌, ◌≤◌, ◌+◌, ◌==◌, ℕ, Bool, true, false, not, cond, List, [], ◌∷◌, ◌++◌, filter, count_by, Option, Some, None, refl, ap, ap₂, sym, ◌∙◌, subst, arith, if◌then◌else◌, append-nil, append_assoc}
use Rattle.std.proofs.lemmas.Bool.{ne_eqb, eqb-true, eq-eqb, and_parts, and_from, false≢true, true_from_ne_false, not_from_true, not-false}
use Rattle.std.proofs.lemmas.List.Sums.{sum_by-cons, sum_by_push}
use Rattle.def_term.specs.Tree.{Tree}
use Rattle.def_spec.specs.Flags.{silent_flag}
use Rattle.def_node.specs.Event.{Call, sent, received, called, returned, raised, spawning, spawned, exited, linked, unlinked, getting_linked, getting_unlinked}
use Rattle.def_session.specs.State.{MarkKind, for_returns, for_exceptions, flags_at, mark_of}
use Rattle.def_running_node.specs.NodeSessions.{NodeMark, is_mark_at, kind_at, with_mark}
use Rattle.def_running_node.specs.NodeRuns.{exceptions_at, exceptions_by, exceptions_of}
use Rattle.def_running_node.specs.Laws.{ReturnsMarkHasNoException, OtherProcessHasNoException, SilentCallHasNoMark, CallHasItsMark, EndedFrameHasNoMark, OtherFrameHasItsMark, NoMarkWithoutCall, HasOneMarkAtMost, FrameHasOneMark, NewestFrameIsFirst}

-- ---- one mark

-- the mark of a call
abbrev mark_for_call : ℕ → Call → MarkKind → NodeMark
mark_for_call p c k = record { process = p; depth = c.depth; kind = k; mfa = c.mfa }

-- a mark that is at a frame is of its process and depth
of-frame : (p depth : ℕ) (m : NodeMark) → is_mark_at p depth m ≡ true → (m.process ≡ p) × (m.depth ≡ depth)
of-frame p depth m h =
    let parts : ((m.process == p) ≡ true) × ((m.depth == depth) ≡ true) = and_parts (m.process == p) (m.depth == depth) h in
    (eqb-true m.process p parts.0, eqb-true m.depth depth parts.1)

at-frame : (p depth : ℕ) (m : NodeMark) → m.process ≡ p → m.depth ≡ depth → is_mark_at p depth m ≡ true
at-frame p depth m h k = and_from (m.process == p) (m.depth == depth) (eq-eqb m.process p h) (eq-eqb m.depth depth k)

-- how many marks of the frame there are
abbrev count_at : ℕ → ℕ → List NodeMark → ℕ
count_at p depth ms = count_by (λ m. is_mark_at p depth m) ms

count-cons : (p depth : ℕ) (m : NodeMark) (ms : List NodeMark) → count_at p depth (m ∷ ms) ≡ cond (is_mark_at p depth m) 1 0 + count_at p depth ms
count-cons p depth m ms = sum_by-cons (λ n. cond (is_mark_at p depth n) 1 0) m ms

-- ---- some of the marks

module _ (p depth : ℕ) (keeps : NodeMark → Bool) where
  -- where no mark of the frame is among them, it has none
  gone : ((m : NodeMark) → is_mark_at p depth m ≡ true → keeps m ≡ false) → (ms : List NodeMark) → kind_at (filter keeps ms) p depth ≡ None
  gone h [] = refl
  gone h (m ∷ ms) = go (is_mark_at p depth m) (keeps m) refl refl (gone h ms)
    where
      go : (a b : Bool) → is_mark_at p depth m ≡ a → keeps m ≡ b → kind_at (filter keeps ms) p depth ≡ None → kind_at (cond b (m ∷ filter keeps ms) (filter keeps ms)) p depth ≡ None
      go true true i k rest = absurd (false≢true (sym (h m i) ∙ k))
      go false true i k rest = ap (λ t. if t then Some m.kind else kind_at (filter keeps ms) p depth) i ∙ rest
      go a false i k rest = rest

  -- where all of them are, it has the same
  same : ((m : NodeMark) → is_mark_at p depth m ≡ true → keeps m ≡ true) → (ms : List NodeMark) → kind_at (filter keeps ms) p depth ≡ kind_at ms p depth
  same h [] = refl
  same h (m ∷ ms) = go (is_mark_at p depth m) (keeps m) refl refl (same h ms)
    where
      go : (a b : Bool) → is_mark_at p depth m ≡ a → keeps m ≡ b → kind_at (filter keeps ms) p depth ≡ kind_at ms p depth
          → kind_at (cond b (m ∷ filter keeps ms) (filter keeps ms)) p depth ≡ (if is_mark_at p depth m then Some m.kind else kind_at ms p depth)
      go true false i k rest = absurd (false≢true (sym k ∙ h m i))
      go false false i k rest = rest ∙ sym (ap (λ t. if t then Some m.kind else kind_at ms p depth) i)
      go a true i k rest = ap (λ x. if is_mark_at p depth m then Some m.kind else x) rest

  -- one that has none has none among them
  none-still : (ms : List NodeMark) → kind_at ms p depth ≡ None → kind_at (filter keeps ms) p depth ≡ None
  none-still [] h = refl
  none-still (m ∷ ms) h = go (is_mark_at p depth m) (keeps m) refl h (none-still ms)
    where
      go : (a b : Bool) → is_mark_at p depth m ≡ a → (if a then Some m.kind else kind_at ms p depth) ≡ None → (kind_at ms p depth ≡ None → kind_at (filter keeps ms) p depth ≡ None)
          → kind_at (cond b (m ∷ filter keeps ms) (filter keeps ms)) p depth ≡ None
      go true b i k rest = absurd (cc k)
      go false true i k rest = ap (λ t. if t then Some m.kind else kind_at (filter keeps ms) p depth) i ∙ rest k
      go false false i k rest = rest k

  -- they are no more
  no-more : (ms : List NodeMark) → count_at p depth (filter keeps ms) ≤ count_at p depth ms
  no-more [] = omega arith
  no-more (m ∷ ms) = go (keeps m) (no-more ms)
    where
      go : (b : Bool) → count_at p depth (filter keeps ms) ≤ count_at p depth ms → count_at p depth (cond b (m ∷ filter keeps ms) (filter keeps ms)) ≤ count_at p depth (m ∷ ms)
      go true h =
          let a : count_at p depth (m ∷ filter keeps ms) ≡ cond (is_mark_at p depth m) 1 0 + count_at p depth (filter keeps ms) = count-cons p depth m (filter keeps ms) in
          let b : count_at p depth (m ∷ ms) ≡ cond (is_mark_at p depth m) 1 0 + count_at p depth ms = count-cons p depth m ms in
          omega arith
      go false h = let b : count_at p depth (m ∷ ms) ≡ cond (is_mark_at p depth m) 1 0 + count_at p depth ms = count-cons p depth m ms in omega arith

-- ---- one mark more

module _ (p depth : ℕ) where
  more-after-none : (ms ns : List NodeMark) → kind_at ms p depth ≡ None → kind_at (ms ++ ns) p depth ≡ kind_at ns p depth
  more-after-none [] ns h = refl
  more-after-none (m ∷ ms) ns h = go (is_mark_at p depth m) h (more-after-none ms ns)
    where
      go : (b : Bool) → (if b then Some m.kind else kind_at ms p depth) ≡ None → (kind_at ms p depth ≡ None → kind_at (ms ++ ns) p depth ≡ kind_at ns p depth)
          → (if b then Some m.kind else kind_at (ms ++ ns) p depth) ≡ kind_at ns p depth
      go true k rest = absurd (cc k)
      go false k rest = rest k

  more-after-some : (ms ns : List NodeMark) (x : MarkKind) → kind_at ms p depth ≡ Some x → kind_at (ms ++ ns) p depth ≡ Some x
  more-after-some [] ns x h = absurd (cc h)
  more-after-some (m ∷ ms) ns x h = go (is_mark_at p depth m) h (more-after-some ms ns x)
    where
      go : (b : Bool) → (if b then Some m.kind else kind_at ms p depth) ≡ Some x → (kind_at ms p depth ≡ Some x → kind_at (ms ++ ns) p depth ≡ Some x)
          → (if b then Some m.kind else kind_at (ms ++ ns) p depth) ≡ Some x
      go true k rest = k
      go false k rest = rest k

  -- none of it is counted where there is none
  count-none : (ms : List NodeMark) → kind_at ms p depth ≡ None → count_at p depth ms ≡ 0
  count-none [] h = refl
  count-none (m ∷ ms) h = count-cons p depth m ms ∙ go (is_mark_at p depth m) h (count-none ms)
    where
      go : (b : Bool) → (if b then Some m.kind else kind_at ms p depth) ≡ None → (kind_at ms p depth ≡ None → count_at p depth ms ≡ 0) → cond b 1 0 + count_at p depth ms ≡ 0
      go true k rest = absurd (cc k)
      go false k rest = let none : count_at p depth ms ≡ 0 = rest k in omega arith

  count-more : (ms : List NodeMark) (n : NodeMark) → count_at p depth (ms ++ n ∷ []) ≡ count_at p depth ms + cond (is_mark_at p depth n) 1 0
  count-more ms n = sum_by_push (λ m. cond (is_mark_at p depth m) 1 0) ms n

-- ---- a call

pub silent_call_has_no_mark : SilentCallHasNoMark
silent_call_has_no_mark t ms p c h = ap (λ b. with_mark ms p c b (mark_of t p c.depth)) h

pub call_has_its_mark : CallHasItsMark
call_has_its_mark t ms p c h k = ap (λ b. kind_at (with_mark ms p c b (mark_of t p c.depth)) p c.depth) h ∙ go (mark_of t p c.depth)
  where
    go : (o : Option MarkKind) → kind_at (with_mark ms p c false o) p c.depth ≡ o
    go None = k
    go (Some x) =
        more-after-none p c.depth ms (mark_for_call p c x ∷ []) k
        ∙ ap (λ b. if b then Some x else None) (at-frame p c.depth (mark_for_call p c x) refl refl)

-- ---- the end of a frame

-- a mark that a return or an exception takes
not-kept : (p depth : ℕ) (m : NodeMark) → is_mark_at p depth m ≡ true → not (is_mark_at p depth m) ≡ false
not-kept p depth m h = not_from_true (is_mark_at p depth m) h

not-kept-at : (q d p depth : ℕ) → q ≡ p → d ≡ depth → (m : NodeMark) → is_mark_at p depth m ≡ true → not (is_mark_at q d m) ≡ false
not-kept-at q d p depth e f m h =
    let parts : (m.process ≡ p) × (m.depth ≡ depth) = of-frame p depth m h in
    not-kept q d m (at-frame q d m (parts.0 ∙ sym e) (parts.1 ∙ sym f))

-- one that it leaves
kept-at : (q d p depth : ℕ) → ((q ≡ p) × (d ≡ depth) → ⊥) → (m : NodeMark) → is_mark_at p depth m ≡ true → not (is_mark_at q d m) ≡ true
kept-at q d p depth apart m h = true_from_ne_false (not (is_mark_at q d m)) (λ k. apart (both (not-false (is_mark_at q d m) k)))
  where
    both : is_mark_at q d m ≡ true → (q ≡ p) × (d ≡ depth)
    both k =
        let of_it : (m.process ≡ p) × (m.depth ≡ depth) = of-frame p depth m h in
        let of_other : (m.process ≡ q) × (m.depth ≡ d) = of-frame q d m k in
        (sym of_other.0 ∙ of_it.0, sym of_other.1 ∙ of_it.1)

pub ended_frame_has_no_mark : EndedFrameHasNoMark
ended_frame_has_no_mark t ms (returned q f v d) p depth h = gone p depth (λ m. not (is_mark_at q d m)) (not-kept-at q d p depth h.0 h.1) ms
ended_frame_has_no_mark t ms (raised q f c v d) p depth h = gone p depth (λ m. not (is_mark_at q d m)) (not-kept-at q d p depth h.0 h.1) ms
ended_frame_has_no_mark t ms (exited q r) p depth h =
    gone p depth (λ m. not (m.process == q)) (λ m k. not_from_true (m.process == q) (eq-eqb m.process q ((of-frame p depth m k).0 ∙ sym h))) ms
ended_frame_has_no_mark t ms (sent q x to alive) p depth h = absurd h
ended_frame_has_no_mark t ms (received q sender x) p depth h = absurd h
ended_frame_has_no_mark t ms (called q c) p depth h = absurd h
ended_frame_has_no_mark t ms (spawning q child f args) p depth h = absurd h
ended_frame_has_no_mark t ms (spawned q parent f args) p depth h = absurd h
ended_frame_has_no_mark t ms (linked q other) p depth h = absurd h
ended_frame_has_no_mark t ms (unlinked q other) p depth h = absurd h
ended_frame_has_no_mark t ms (getting_linked q other) p depth h = absurd h
ended_frame_has_no_mark t ms (getting_unlinked q other) p depth h = absurd h

pub other_frame_has_its_mark : OtherFrameHasItsMark
other_frame_has_its_mark t ms (called q c) p depth k apart h = go (flags_at t q silent_flag) (mark_of t q c.depth)
  where
    go : (b : Bool) (o : Option MarkKind) → kind_at (with_mark ms q c b o) p depth ≡ Some k
    go true o = h
    go false None = h
    go false (Some x) = more-after-some p depth ms (mark_for_call q c x ∷ []) k h
other_frame_has_its_mark t ms (returned q f v d) p depth k apart h = same p depth (λ m. not (is_mark_at q d m)) (kept-at q d p depth apart) ms ∙ h
other_frame_has_its_mark t ms (raised q f c v d) p depth k apart h = same p depth (λ m. not (is_mark_at q d m)) (kept-at q d p depth apart) ms ∙ h
other_frame_has_its_mark t ms (exited q r) p depth k apart h = same p depth (λ m. not (m.process == q)) left ms ∙ h
  where
    left : (m : NodeMark) → is_mark_at p depth m ≡ true → not (m.process == q) ≡ true
    left m i = true_from_ne_false (not (m.process == q)) (λ n. apart (sym (eqb-true m.process q (not-false (m.process == q) n)) ∙ (of-frame p depth m i).0))
other_frame_has_its_mark t ms (sent q x to alive) p depth k apart h = h
other_frame_has_its_mark t ms (received q sender x) p depth k apart h = h
other_frame_has_its_mark t ms (spawning q child f args) p depth k apart h = h
other_frame_has_its_mark t ms (spawned q parent f args) p depth k apart h = h
other_frame_has_its_mark t ms (linked q other) p depth k apart h = h
other_frame_has_its_mark t ms (unlinked q other) p depth k apart h = h
other_frame_has_its_mark t ms (getting_linked q other) p depth k apart h = h
other_frame_has_its_mark t ms (getting_unlinked q other) p depth k apart h = h

pub no_mark_without_call : NoMarkWithoutCall
no_mark_without_call t ms (called q c) p depth apart h = go (flags_at t q silent_flag) (mark_of t q c.depth)
  where
    of-other : (x : MarkKind) (b : Bool) → is_mark_at p depth (mark_for_call q c x) ≡ b → kind_at (mark_for_call q c x ∷ []) p depth ≡ None
    of-other x true i = absurd (apart (of-frame p depth (mark_for_call q c x) i))
    of-other x false i = ap (λ b. if b then Some x else None) i

    go : (b : Bool) (o : Option MarkKind) → kind_at (with_mark ms q c b o) p depth ≡ None
    go true o = h
    go false None = h
    go false (Some x) = more-after-none p depth ms (mark_for_call q c x ∷ []) h ∙ of-other x (is_mark_at p depth (mark_for_call q c x)) refl
no_mark_without_call t ms (returned q f v d) p depth apart h = none-still p depth (λ m. not (is_mark_at q d m)) ms h
no_mark_without_call t ms (raised q f c v d) p depth apart h = none-still p depth (λ m. not (is_mark_at q d m)) ms h
no_mark_without_call t ms (exited q r) p depth apart h = none-still p depth (λ m. not (m.process == q)) ms h
no_mark_without_call t ms (sent q x to alive) p depth apart h = h
no_mark_without_call t ms (received q sender x) p depth apart h = h
no_mark_without_call t ms (spawning q child f args) p depth apart h = h
no_mark_without_call t ms (spawned q parent f args) p depth apart h = h
no_mark_without_call t ms (linked q other) p depth apart h = h
no_mark_without_call t ms (unlinked q other) p depth apart h = h
no_mark_without_call t ms (getting_linked q other) p depth apart h = h
no_mark_without_call t ms (getting_unlinked q other) p depth apart h = h

-- ---- one mark at most

fewer : (p depth : ℕ) (keeps : NodeMark → Bool) (ms : List NodeMark) → HasOneMarkAtMost ms p depth → HasOneMarkAtMost (filter keeps ms) p depth
fewer p depth keeps ms h = let less : count_at p depth (filter keeps ms) ≤ count_at p depth ms = no-more p depth keeps ms in omega arith

pub frame_has_one_mark : FrameHasOneMark
frame_has_one_mark t ms (called q c) p depth new h = go (flags_at t q silent_flag) (mark_of t q c.depth)
  where
    with-it : (x : MarkKind) (b : Bool) → is_mark_at p depth (mark_for_call q c x) ≡ b → count_at p depth ms + cond b 1 0 ≤ 1
    with-it x true i = let none : count_at p depth ms ≡ 0 = count-none p depth ms (new (of-frame p depth (mark_for_call q c x) i)) in omega arith
    with-it x false i = omega arith

    go : (b : Bool) (o : Option MarkKind) → HasOneMarkAtMost (with_mark ms q c b o) p depth
    go true o = h
    go false None = h
    go false (Some x) = subst (λ n. n ≤ 1) (sym (count-more p depth ms (mark_for_call q c x))) (with-it x (is_mark_at p depth (mark_for_call q c x)) refl)
frame_has_one_mark t ms (returned q f v d) p depth new h = fewer p depth (λ m. not (is_mark_at q d m)) ms h
frame_has_one_mark t ms (raised q f c v d) p depth new h = fewer p depth (λ m. not (is_mark_at q d m)) ms h
frame_has_one_mark t ms (exited q r) p depth new h = fewer p depth (λ m. not (m.process == q)) ms h
frame_has_one_mark t ms (sent q x to alive) p depth new h = h
frame_has_one_mark t ms (received q sender x) p depth new h = h
frame_has_one_mark t ms (spawning q child f args) p depth new h = h
frame_has_one_mark t ms (spawned q parent f args) p depth new h = h
frame_has_one_mark t ms (linked q other) p depth new h = h
frame_has_one_mark t ms (unlinked q other) p depth new h = h
frame_has_one_mark t ms (getting_linked q other) p depth new h = h
frame_has_one_mark t ms (getting_unlinked q other) p depth new h = h

-- ---- an error

one-more-frame : (p : ℕ) (x : Tree) (ms : List NodeMark) (n : NodeMark) → exceptions_of (ms ++ n ∷ []) p x ≡ exceptions_at n p x ++ exceptions_of ms p x
one-more-frame p x [] n = sym (append-nil (exceptions_at n p x))
one-more-frame p x (m ∷ ms) n = ap (λ ts. ts ++ exceptions_at m p x) (one-more-frame p x ms n) ∙ append_assoc (exceptions_at n p x) (exceptions_of ms p x) (exceptions_at m p x)

pub newest_frame_is_first : NewestFrameIsFirst
newest_frame_is_first t ms p c x h k =
    ap₂ (λ b o. exceptions_of (with_mark ms p c b o) p x) h k
    ∙ one-more-frame p x ms (mark_for_call p c for_exceptions)
    ∙ ap (λ b. (if b then exceptions_by for_exceptions (mark_for_call p c for_exceptions) x else []) ++ exceptions_of ms p x) (eq-eqb p p refl)

no-more-frame : (p : ℕ) (x : Tree) (ms : List NodeMark) (n : NodeMark) → exceptions_at n p x ≡ [] → exceptions_of (ms ++ n ∷ []) p x ≡ exceptions_of ms p x
no-more-frame p x ms n h = one-more-frame p x ms n ∙ ap (λ ts. ts ++ exceptions_of ms p x) h

pub returns_mark_has_no_exception : ReturnsMarkHasNoException
returns_mark_has_no_exception t ms p c x h = ap (λ o. exceptions_of (with_mark ms p c (flags_at t p silent_flag) o) p x) h ∙ go (flags_at t p silent_flag)
  where
    none : (b : Bool) → if◌then◌else◌ {A = List Tree} b [] [] ≡ []
    none true = refl
    none false = refl

    go : (b : Bool) → exceptions_of (with_mark ms p c b (Some for_returns)) p x ≡ exceptions_of ms p x
    go true = refl
    go false = no-more-frame p x ms (mark_for_call p c for_returns) (none (p == p))

pub other_process_has_no_exception : OtherProcessHasNoException
other_process_has_no_exception t ms p q c x apart = go (flags_at t q silent_flag) (mark_of t q c.depth)
  where
    go : (b : Bool) (o : Option MarkKind) → exceptions_of (with_mark ms q c b o) p x ≡ exceptions_of ms p x
    go true o = refl
    go false None = refl
    go false (Some k) = no-more-frame p x ms (mark_for_call q c k) (ap (λ b. if b then exceptions_by k (mark_for_call q c k) x else []) (ne_eqb q p apart))
