-- Two answers of one job over the same bytes: what is answered, written and left is the same.
use Rattle.std.proofs.Common.{◌≡◌, ◌∙◌, ◌⊎◌, inl, inr, ℕ, Bool, true, List, [], ◌++◌, take, Option, Some, None, IsSome, Result, Ok, Err, IfOk, IfErr, refl, sym, ap, ap₂, subst}
use Rattle.tn_text.specs.Watch.{watched_inner, has_failed, is_flushed}
use Rattle.tn_text.specs.declared.watched.Watched.{Watched}
use Rattle.tn_moves.specs.Schedules.{by_workers}
use Rattle.tn_run.specs.Answers.{HasPicksWhereListed, live_run, run_for}
use Rattle.tn_run.specs.Ends.{TakesText}
use Rattle.tn_run.specs.Jobs.{Meets, FailedEnd, Gives, JobView, Writes, WritesSome, no_end_failed, reader_failed, writer_failed}
use Rattle.tn_run.specs.declared.outcome.Outcome.{Outcome}
use Rattle.tn_run.specs.declared.outcome.Outcome.TheVariants.{Listed, Refused}
use Rattle.tn_run.specs.declared.live.Ran.{Ran}
use Rattle.complete_runs.proofs.Both.{both_if_ok}
use Rattle.complete_workers.specs.Ends.{EndAlike, TellAlike, error_of}
use Rattle.complete_workers.specs.Runs.{AreOfOneText, HasRead, IsOfNoWrite, IsRefusedOutcome, MadeAlike, MeetNoWriteFault}
use Rattle.complete_workers.proofs.OneRun.{one_outcome, one_run}
use Rattle.complete_workers.proofs.SameEnds.{appended, as_other, not_told, taken_is}

-- the same reader or writer tells the same bytes
pub seen_as : {T : Type 0} (known : T → Option (List ℕ)) (one other : Watched T) → one ≡ other → TellAlike known one other
seen_as {T} known one other e = ap (λ (w : Watched T). known (watched_inner w)) e

-- ---- what both remember

-- whether a read has failed, a write has, and all was flushed, after this fault
abbrev pub reader_after : Bool → FailedEnd → Bool
reader_after was reader_failed = true
reader_after was (writer_failed n) = was
reader_after was no_end_failed = was

abbrev writer_after : Bool → FailedEnd → Bool
writer_after was reader_failed = was
writer_after was (writer_failed n) = true
writer_after was no_end_failed = was

-- after this answer, where `by` says it of a fault
abbrev pub after_answer : {F : Type 0} → (F → Bool) → Bool → Option F → Bool
after_answer by done None = done
after_answer by done (Some fault) = by fault

module _ {R W O F : Type 0} (job : JobView O F) (known : R → Option (List ℕ)) (reader reader' : Watched R) (gained : W → Option (List ℕ)) (writer writer' : Watched W) where
  reader_at : (f : F) (x : FailedEnd) → job.end_of f ≡ x → Meets job known reader reader' gained writer writer' (Err f) → has_failed reader' ≡ reader_after (has_failed reader) x
  reader_at f reader_failed e h = (h.on_read e).failed
  reader_at f (writer_failed n) e h = (h.on_write n e).read.unfailed
  reader_at f no_end_failed e h = (h.on_neither e).unfailed

  reader_is : (r : Result O F) → Meets job known reader reader' gained writer writer' r → has_failed reader' ≡ after_answer (λ f. reader_after (has_failed reader) (job.end_of f)) (has_failed reader) (error_of r)
  reader_is (Ok o) h = h.read.unfailed
  reader_is (Err f) h = reader_at f (job.end_of f) refl h

  writer_at : (f : F) (x : FailedEnd) → job.end_of f ≡ x → Meets job known reader reader' gained writer writer' (Err f) → has_failed writer' ≡ writer_after (has_failed writer) x
  writer_at f reader_failed e h = ap has_failed (h.on_read e).unwritten
  writer_at f (writer_failed n) e h = (h.on_write n e).failed
  writer_at f no_end_failed e h = ap has_failed (h.on_neither e).unwritten

  writer_is : (r : Result O F) → Meets job known reader reader' gained writer writer' r → has_failed writer' ≡ after_answer (λ f. writer_after (has_failed writer) (job.end_of f)) (has_failed writer) (error_of r)
  writer_is (Ok o) h = h.unfailed
  writer_is (Err f) h = writer_at f (job.end_of f) refl h

  -- a fault of no write leaves the writer as it was
  untouched_at : (f : F) (x : FailedEnd) → job.end_of f ≡ x → IsOfNoWrite job.end_of f → Meets job known reader reader' gained writer writer' (Err f) → writer' ≡ writer
  untouched_at f reader_failed e none h = (h.on_read e).unwritten
  untouched_at f (writer_failed n) e none h = absurd (none n e)
  untouched_at f no_end_failed e none h = (h.on_neither e).unwritten

  pub untouched : (f : F) → IsOfNoWrite job.end_of f → Meets job known reader reader' gained writer writer' (Err f) → writer' ≡ writer
  untouched f none h = untouched_at f (job.end_of f) refl none h

  flushed_is : (r : Result O F) → IfErr r (IsOfNoWrite job.end_of) → Meets job known reader reader' gained writer writer' r → is_flushed writer' ≡ after_answer (λ f. is_flushed writer) true (error_of r)
  flushed_is (Ok o) none h = h.flushed
  flushed_is (Err f) none h = ap is_flushed (untouched f none h)

module _ {R W O F : Type 0} (job : JobView O F) (known : R → Option (List ℕ)) (one one' other other' : Watched R) (gained : W → Option (List ℕ)) (out out' same same' : Watched W) (r q : Result O F)
    (h : Meets job known one one' gained out out' r) (i : Meets job known other other' gained same same' q) where
  pub same_read_failed_by : has_failed one ≡ has_failed other → EndAlike r q → has_failed one' ≡ has_failed other'
  same_read_failed_by e alike =
      reader_is job known one one' gained out out' r h
      ∙ ap₂ (λ was fault. after_answer (λ f. reader_after was (job.end_of f)) was fault) e alike
      ∙ sym (reader_is job known other other' gained same same' q i)

  pub same_write_failed_by : has_failed out ≡ has_failed same → EndAlike r q → has_failed out' ≡ has_failed same'
  same_write_failed_by e alike =
      writer_is job known one one' gained out out' r h
      ∙ ap₂ (λ was fault. after_answer (λ f. writer_after was (job.end_of f)) was fault) e alike
      ∙ sym (writer_is job known other other' gained same same' q i)

  pub same_flushed : is_flushed out ≡ is_flushed same → MeetNoWriteFault job.end_of r q → is_flushed out' ≡ is_flushed same'
  same_flushed e alike =
      flushed_is job known one one' gained out out' r alike.1 h
      ∙ ap₂ (λ was fault. after_answer (λ f. was) true fault) e alike.0
      ∙ sym (flushed_is job known other other' gained same same' q (as_other (IsOfNoWrite job.end_of) r q alike.0 alike.1) i)

-- ---- the outcome

module _ {O F : Type 0} (job : JobView O F) (G : O → O → Type 0) (one : (bytes : List ℕ) (o u : O) (x y : List ℕ) → Gives job bytes o x → Gives job bytes u y → G o u) where
  outcome_of : (old w w' v v' : Option (List ℕ)) (o u : O) → IsSome old → Writes job old w w' o → Writes job old v v' u → G o u
  outcome_of None w w' v v' o u some h i = not_told some
  outcome_of (Some bytes) w w' v v' o u some h i = one bytes o u h.0 i.0 h.1 i.1

  pub same_outcome : (old other w w' v v' : Option (List ℕ)) (r q : Result O F) → old ≡ other → IfOk r (Writes job old w w') → IfOk q (Writes job other v v')
      → IsSome old → IfOk r (λ o. IfOk q (G o))
  same_outcome old other w w' v v' r q e h i some =
      both_if_ok (Writes job old w w') (Writes job old v v') G (λ o u k l. outcome_of old w w' v v' o u some k l) r q h (subst (λ z. IfOk q (Writes job z v v')) (sym e) i)

-- ---- what is written

-- what the contract says of the writer
pub record SaysWritten {O F : Type 0} (job : JobView O F) (bytes old new : Option (List ℕ)) (r : Result O F) : Type 0 where
  pub done : IfOk r (Writes job bytes old new)
  pub front : IfErr r (λ f. (n : ℕ) → job.end_of f ≡ writer_failed n → WritesSome job bytes old new n)
  pub rest : IfErr r (λ f. IsOfNoWrite job.end_of f → new ≡ old)

module _ {R W O F : Type 0} (job : JobView O F) (known : R → Option (List ℕ)) (reader reader' : Watched R) (gained : W → Option (List ℕ)) (writer writer' : Watched W) where
  pub says_written : (r : Result O F) → Meets job known reader reader' gained writer writer' r → SaysWritten job (known (watched_inner reader)) (gained (watched_inner writer)) (gained (watched_inner writer')) r
  says_written (Ok o) h = record { done = h.written; front = tt; rest = tt }
  says_written (Err f) h = record {
    done = tt;
    front = λ n e. (h.on_write n e).written;
    rest = λ none. seen_as gained writer' writer (untouched job known reader reader' gained writer writer' f none h);
  }

module _ {O F : Type 0} (job : JobView O F) (one : (bytes : List ℕ) (o u : O) (x y : List ℕ) → Gives job bytes o x → Gives job bytes u y → x ≡ y) where
  -- two writers that told the same bytes, by the end that failed
  done_alike : (bytes was : List ℕ) (new new' : Option (List ℕ)) (o u : O) → Writes job (Some bytes) (Some was) new o → Writes job (Some bytes) (Some was) new' u → new ≡ new'
  done_alike bytes was new new' o u h i = appended was h.0 new h.2 ∙ ap (λ x. Some (was ++ x)) (one bytes o u h.0 i.0 h.1 i.1) ∙ sym (appended was i.0 new' i.2)

  front_alike : (bytes was : List ℕ) (new new' : Option (List ℕ)) (n : ℕ) → WritesSome job (Some bytes) (Some was) new n → WritesSome job (Some bytes) (Some was) new' n → new ≡ new'
  front_alike bytes was new new' n h i =
      appended was (take n h.1) new h.3.gained ∙ ap (λ x. Some (was ++ take n x)) (one bytes h.0 i.0 h.1 i.1 h.2 i.2) ∙ sym (appended was (take n i.1) new' i.3.gained)

  fault_alike : (bytes was : List ℕ) (new new' : Option (List ℕ)) (f : F) (x : FailedEnd) → job.end_of f ≡ x → SaysWritten job (Some bytes) (Some was) new (Err f) → SaysWritten job (Some bytes) (Some was) new' (Err f) → new ≡ new'
  fault_alike bytes was new new' f reader_failed e h i = h.rest (λ n k. cc (e, k)) ∙ sym (i.rest (λ n k. cc (e, k)))
  fault_alike bytes was new new' f (writer_failed n) e h i = front_alike bytes was new new' n (h.front n e) (i.front n e)
  fault_alike bytes was new new' f no_end_failed e h i = h.rest (λ n k. cc (e, k)) ∙ sym (i.rest (λ n k. cc (e, k)))

  answers_alike : (bytes was : List ℕ) (new new' : Option (List ℕ)) (r q : Result O F) → EndAlike r q → SaysWritten job (Some bytes) (Some was) new r → SaysWritten job (Some bytes) (Some was) new' q → new ≡ new'
  answers_alike bytes was new new' (Ok o) (Ok u) same h i = done_alike bytes was new new' o u h.done i.done
  answers_alike bytes was new new' (Ok o) (Err g) same h i = absurd (cc same)
  answers_alike bytes was new new' (Err f) (Ok u) same h i = absurd (cc same)
  answers_alike bytes was new new' (Err f) (Err g) same h i =
      let e : f ≡ g = cc same in
      fault_alike bytes was new new' f (job.end_of f) refl h (subst (λ k. SaysWritten job (Some bytes) (Some was) new' (Err k)) (sym e) i)

  pub same_run_written : (bytes bytes' old old' new new' : Option (List ℕ)) (r q : Result O F) → bytes ≡ bytes' → old ≡ old' → SaysWritten job bytes old new r → SaysWritten job bytes' old' new' q
      → IsSome bytes → IsSome old → EndAlike r q → new ≡ new'
  same_run_written None bytes' old old' new new' r q e f h i there some same = not_told there
  same_run_written (Some bytes) bytes' None old' new new' r q e f h i there some same = not_told some
  same_run_written (Some bytes) bytes' (Some was) old' new new' r q e f h i there some same =
      answers_alike bytes was new new' r q same h (subst (λ t. SaysWritten job t (Some was) new' q) (sym e) (subst (λ w. SaysWritten job bytes' w new' q) (sym f) i))

-- ---- what is left of the reader

abbrev pub Taken : (old new : Option (List ℕ)) → Type 0
Taken old new = (text : List ℕ) × TakesText old new text

pub front_left : (old other new new' : Option (List ℕ)) → old ≡ other → IsSome old → Taken old new → Taken other new' → new ≡ new'
front_left None other new new' e some h i = not_told some
front_left (Some bytes) other new new' e some h i =
    let i' : Taken (Some bytes) new' = subst (λ o. Taken o new') (sym e) i in
    (taken_is bytes new h.0 h.1).1 ∙ sym (taken_is bytes new' i'.0 i'.1).1

module _ {R W O F : Type 0} (job : JobView O F) (known : R → Option (List ℕ)) (gained : W → Option (List ℕ)) (either : (bytes : List ℕ) (o : O) (x : List ℕ) → Gives job bytes o x → job.reads ⊎ (job.reads → ⊥)) where
  took_at : (reader reader' : Watched R) (writer writer' : Watched W) (f : F) (x : FailedEnd) → job.end_of f ≡ x → HasRead {O = O} job.end_of (Err f) → Meets job known reader reader' gained writer writer' (Err f) → job.reads
      → Taken (known (watched_inner reader)) (known (watched_inner reader'))
  took_at reader reader' writer writer' f reader_failed e read h reads = absurd (rw e at read)
  took_at reader reader' writer writer' f (writer_failed n) e read h reads = (h.on_write n e).read.taken reads
  took_at reader reader' writer writer' f no_end_failed e read h reads = absurd (rw e at read)

  took : (reader reader' : Watched R) (writer writer' : Watched W) (r : Result O F) → HasRead job.end_of r → Meets job known reader reader' gained writer writer' r → job.reads → Taken (known (watched_inner reader)) (known (watched_inner reader'))
  took reader reader' writer writer' (Ok o) read h reads = h.read.taken reads
  took reader reader' writer writer' (Err f) read h reads = took_at reader reader' writer writer' f (job.end_of f) refl read h reads

  ran_at : (bytes : List ℕ) (old new : Option (List ℕ)) (f : F) (x : FailedEnd) → job.end_of f ≡ x → HasRead {O = O} job.end_of (Err f) → SaysWritten job (Some bytes) old new (Err f) → job.reads ⊎ (job.reads → ⊥)
  ran_at bytes old new f reader_failed e read h = absurd (rw e at read)
  ran_at bytes old new f (writer_failed n) e read h = let d = h.front n e in either bytes d.0 d.1 d.2
  ran_at bytes old new f no_end_failed e read h = absurd (rw e at read)

  ran_of : (bytes old new : Option (List ℕ)) (r : Result O F) → IsSome bytes → HasRead job.end_of r → SaysWritten job bytes old new r → job.reads ⊎ (job.reads → ⊥)
  ran_of None old new r some read h = not_told some
  ran_of (Some bytes) old new (Ok o) some read h = let d = h.done in either bytes o d.0 d.1
  ran_of (Some bytes) old new (Err f) some read h = ran_at bytes old new f (job.end_of f) refl read h

  left_by : (one one' other other' : Watched R) (out out' same same' : Watched W) (r q : Result O F) → TellAlike known one other → Meets job known one one' gained out out' r → Meets job known other other' gained same same' q
      → IsSome (known (watched_inner one)) → HasRead job.end_of r → HasRead job.end_of q → job.reads ⊎ (job.reads → ⊥) → TellAlike known one' other'
  left_by one one' other other' out out' same same' r q e h i some read read' (inl reads) =
      front_left (known (watched_inner one)) (known (watched_inner other)) (known (watched_inner one')) (known (watched_inner other')) e some (took one one' out out' r read h reads) (took other other' same same' q read' i reads)
  left_by one one' other other' out out' same same' r q e h i some read read' (inr not) =
      seen_as known one' one (h.unread not) ∙ e ∙ sym (seen_as known other' other (i.unread not))

  pub same_run_left : (one one' other other' : Watched R) (out out' same same' : Watched W) (r q : Result O F) → TellAlike known one other → Meets job known one one' gained out out' r → Meets job known other other' gained same same' q
      → IsSome (known (watched_inner one)) → HasRead job.end_of r → HasRead job.end_of q → TellAlike known one' other'
  same_run_left one one' other other' out out' same same' r q e h i some read read' =
      left_by one one' other other' out out' same same' r q e h i some read read'
      (ran_of (known (watched_inner one)) (gained (watched_inner out)) (gained (watched_inner out')) r some read (says_written job known one one' gained out out' r h))

-- ---- by workers

no_picks : (o : Outcome) (picks : List ℕ) → IsRefusedOutcome o → HasPicksWhereListed o picks → picks ≡ []
no_picks Listed picks h i = absurd h
no_picks (Refused r) picks h i = i

pub of_one_text : (r q : Ran) → r.outcome ≡ q.outcome → HasPicksWhereListed r.outcome r.picks.items → HasPicksWhereListed q.outcome q.picks.items → AreOfOneText r q
of_one_text r q same k l = record { outcome = same; picks = λ is. no_picks r.outcome r.picks.items is k ∙ sym (no_picks q.outcome q.picks.items (subst IsRefusedOutcome same is) l) }

-- a job of workers that gives one outcome of one text, and for the same picks one output
pub record IsByPicks {F : Type 0} (job : JobView Ran F) : Type 0 where
  pub outcome : (bytes : List ℕ) (r q : Ran) (x y : List ℕ) → Gives job bytes r x → Gives job bytes q y → r.outcome ≡ q.outcome
  pub output : (bytes : List ℕ) (r q : Ran) (x y : List ℕ) → r.picks.items ≡ q.picks.items → Gives job bytes r x → Gives job bytes q y → x ≡ y
  pub picks : (r : Ran) → job.has r → HasPicksWhereListed r.outcome r.picks.items

one_live_output : (bytes : List ℕ) (r q : Ran) (x y : List ℕ) → r.picks.items ≡ q.picks.items → Gives live_run bytes r x → Gives live_run bytes q y → x ≡ y
one_live_output bytes r q x y e h i =
    let i' : Gives (run_for (by_workers r.picks.items)) bytes q.outcome y = subst (λ ps. Gives (run_for (by_workers ps)) bytes q.outcome y) (sym e) i in
    (one_run bytes (by_workers r.picks.items) r.outcome q.outcome x y h i').1

pub live_by_picks : IsByPicks live_run
live_by_picks = record {
  outcome = λ bytes r q x y h i. one_outcome bytes r.picks.items q.picks.items r.outcome q.outcome x y h i;
  output = one_live_output;
  picks = λ r h. h;
}

module _ {F : Type 0} (job : JobView Ran F) (by : IsByPicks job) where
  outcomes_of : (bytes w w' v v' : Option (List ℕ)) (r q : Ran) → IsSome bytes → Writes job bytes w w' r → Writes job bytes v v' q → job.has r → job.has q → AreOfOneText r q
  outcomes_of None w w' v v' r q some h i k l = not_told some
  outcomes_of (Some bytes) w w' v v' r q some h i k l = of_one_text r q (by.outcome bytes r q h.0 i.0 h.1 i.1) (by.picks r k) (by.picks q l)

  pub same_live_outcome : (bytes bytes' w w' v v' : Option (List ℕ)) (r q : Result Ran F) → bytes ≡ bytes' → IfOk r (Writes job bytes w w') → IfOk r job.has → IfOk q (Writes job bytes' v v') → IfOk q job.has
      → IsSome bytes → IfOk r (λ x. IfOk q (AreOfOneText x))
  same_live_outcome bytes bytes' w w' v v' (Err e) q same h k i l some = tt
  same_live_outcome bytes bytes' w w' v v' (Ok x) (Err e) same h k i l some = tt
  same_live_outcome bytes bytes' w w' v v' (Ok x) (Ok y) same h k i l some = outcomes_of bytes w w' v v' x y some h (subst (λ t. Writes job t v v' y) (sym same) i) k l

  same_made : (bytes w new new' : Option (List ℕ)) (r q : Ran) → r.picks.items ≡ q.picks.items → IsSome bytes → IsSome w → Writes job bytes w new r → Writes job bytes w new' q → new ≡ new'
  same_made None w new new' r q e some there h i = not_told some
  same_made (Some bytes) None new new' r q e some there h i = not_told there
  same_made (Some bytes) (Some was) new new' r q e some there h i =
      appended was h.0 new h.2 ∙ ap (λ x. Some (was ++ x)) (by.output bytes r q h.0 i.0 e h.1 i.1) ∙ sym (appended was i.0 new' i.2)

  pub same_live_written : (bytes bytes' old old' new new' : Option (List ℕ)) (r q : Result Ran F) → bytes ≡ bytes' → old ≡ old' → SaysWritten job bytes old new r → SaysWritten job bytes' old' new' q
      → IsSome bytes → IsSome old → MadeAlike job.end_of r q → new ≡ new'
  same_live_written bytes bytes' old old' new new' (Ok x) (Ok y) e f h i some there made =
      same_made bytes old new new' x y made some there h.done (subst (λ t. Writes job t old new' y) (sym e) (subst (λ w. Writes job bytes' w new' y) (sym f) i.done))
  same_live_written bytes bytes' old old' new new' (Ok x) (Err d) e f h i some there made = absurd made
  same_live_written bytes bytes' old old' new new' (Err b) (Ok y) e f h i some there made = absurd made
  same_live_written bytes bytes' old old' new new' (Err b) (Err d) e f h i some there made =
      h.rest made.1 ∙ f ∙ sym (i.rest (subst (IsOfNoWrite job.end_of) made.0 made.1))
