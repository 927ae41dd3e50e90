-- Two answers of one run by workers over the same bytes, before anything is written: what is answered and left is the same.
use Rattle.std.proofs.Common.{◌≡◌, ◌∙◌, ℕ, List, Option, Some, None, IsSome, IfSome, Result, Ok, Err, IfOk, refl, sym, ap₂, subst}
use Rattle.std.specs.declared.vec.Vec.{Vec}
use Rattle.tn_text.specs.Watch.{watched_inner, has_failed}
use Rattle.tn_text.specs.declared.watched.Watched.{Watched}
use Rattle.tn_run.specs.Answers.{live_end_of, live_run}
use Rattle.tn_run.specs.Jobs.{FailedEnd, Gives, Prepares, no_end_failed, reader_failed, writer_failed}
use Rattle.tn_run.specs.declared.fault.LiveFault.{LiveFault}
use Rattle.tn_run.specs.declared.live.Ran.{Ran}
use Rattle.complete_runs.proofs.Both.{both_if_ok}
use Rattle.complete_workers.specs.Ends.{EndAlike, TellAlike, error_of}
use Rattle.complete_workers.specs.Runs.{AreOfOneText, HasRead, OutputAlike}
use Rattle.complete_workers.proofs.SameEnds.{not_told}
use Rattle.complete_workers.proofs.SameRuns.{Taken, after_answer, front_left, live_by_picks, of_one_text, reader_after}

-- what is given for the bytes, where they are known
abbrev Given : {A : Type 0} → Option (List ℕ) → Ran × Vec ℕ A → Type 0
Given bytes r = IfSome bytes (λ bs. Gives live_run bs r.0 r.1.items) × live_run.has r.0

both_given : {A : Type 0} (bytes : Option (List ℕ)) (r : Result (Ran × Vec ℕ A) LiveFault) → IfOk r (λ x. IfSome bytes (λ bs. Gives live_run bs x.0 x.1.items)) → IfOk r (λ x. live_run.has x.0) → IfOk r (Given bytes)
both_given bytes (Ok x) h i = (h, i)
both_given bytes (Err e) h i = tt

given_outcome : {A : Type 0} (bytes : Option (List ℕ)) (r q : Ran × Vec ℕ A) → IsSome bytes → Given bytes r → Given bytes q → AreOfOneText r.0 q.0
given_outcome None r q some h i = not_told some
given_outcome (Some bytes) r q some h i = of_one_text r.0 q.0 (live_by_picks.outcome bytes r.0 q.0 r.1.items q.1.items h.0 i.0) h.1 i.1

given_output : {A : Type 0} (bytes : Option (List ℕ)) (r q : Ran × Vec ℕ A) → IsSome bytes → Given bytes r → Given bytes q → OutputAlike r.0 r.1.items q
given_output None r q some h i = not_told some
given_output (Some bytes) r q some h i = λ e. live_by_picks.output bytes r.0 q.0 r.1.items q.1.items e h.0 i.0

module _ {R A : Type 0} (known : R → Option (List ℕ)) (one one' other other' : Watched R) (r q : Result (Ran × Vec ℕ A) LiveFault) (e : TellAlike known one other)
    (h : Prepares live_run known one one' r) (i : Prepares live_run known other other' q) where
  first_given : IfOk r (Given (known (watched_inner one)))
  first_given = both_given (known (watched_inner one)) r h.given h.outcome

  second_given : IfOk q (Given (known (watched_inner one)))
  second_given = both_given (known (watched_inner one)) q (subst (λ bytes. IfOk q (λ x. IfSome bytes (λ bs. Gives live_run bs x.0 x.1.items))) (sym e) i.given) i.outcome

  pub same_prepared_outcome : IsSome (known (watched_inner one)) → IfOk r (λ x. IfOk q (λ y. AreOfOneText x.0 y.0))
  same_prepared_outcome some =
      both_if_ok (Given (known (watched_inner one))) (Given (known (watched_inner one))) (λ x y. AreOfOneText x.0 y.0) (λ x y k l. given_outcome (known (watched_inner one)) x y some k l) r q first_given second_given

  pub same_prepared_output : IsSome (known (watched_inner one)) → IfOk r (λ x. IfOk q (OutputAlike x.0 x.1.items))
  same_prepared_output some =
      both_if_ok (Given (known (watched_inner one))) (Given (known (watched_inner one))) (λ x y. OutputAlike x.0 x.1.items y) (λ x y k l. given_output (known (watched_inner one)) x y some k l) r q first_given second_given

-- ---- what is left of the reader

module _ {R A : Type 0} (known : R → Option (List ℕ)) (reader reader' : Watched R) where
  took_at : (f : LiveFault) (x : FailedEnd) → live_end_of f ≡ x → HasRead {O = Ran × Vec ℕ A} live_end_of (Err f) → Prepares {A = A} live_run known reader reader' (Err f) → Taken (known (watched_inner reader)) (known (watched_inner reader'))
  took_at f reader_failed e read h = absurd (rw e at read)
  took_at f (writer_failed n) e read h = absurd (h.no_write n e)
  took_at f no_end_failed e read h = absurd (rw e at read)

  took : (r : Result (Ran × Vec ℕ A) LiveFault) → HasRead live_end_of r → Prepares live_run known reader reader' r → Taken (known (watched_inner reader)) (known (watched_inner reader'))
  took (Ok x) read h = h.read.taken tt
  took (Err f) read h = took_at f (live_end_of f) refl read h

  failed_at : (f : LiveFault) (x : FailedEnd) → live_end_of f ≡ x → Prepares {A = A} live_run known reader reader' (Err f) → has_failed reader' ≡ reader_after (has_failed reader) x
  failed_at f reader_failed e h = h.on_read e
  failed_at f (writer_failed n) e h = absurd (h.no_write n e)
  failed_at f no_end_failed e h = h.on_neither e

  failed_is : (r : Result (Ran × Vec ℕ A) LiveFault) → Prepares live_run known reader reader' r → has_failed reader' ≡ after_answer (λ f. reader_after (has_failed reader) (live_end_of f)) (has_failed reader) (error_of r)
  failed_is (Ok x) h = h.read.unfailed
  failed_is (Err f) h = failed_at f (live_end_of f) refl h

module _ {R A : Type 0} (known : R → Option (List ℕ)) (one one' other other' : Watched R) (r q : Result (Ran × Vec ℕ A) LiveFault)
    (h : Prepares live_run known one one' r) (i : Prepares live_run known other other' q) where
  pub same_prepared_left : TellAlike known one other → IsSome (known (watched_inner one)) → HasRead live_end_of r → HasRead live_end_of q → TellAlike known one' other'
  same_prepared_left e some read read' =
      front_left (known (watched_inner one)) (known (watched_inner other)) (known (watched_inner one')) (known (watched_inner other')) e some (took known one one' r read h) (took known other other' q read' i)

  pub same_prepared_failed : has_failed one ≡ has_failed other → EndAlike r q → has_failed one' ≡ has_failed other'
  same_prepared_failed e alike =
      failed_is known one one' r h ∙ ap₂ (λ was fault. after_answer (λ f. reader_after was (live_end_of f)) was fault) e alike ∙ sym (failed_is known other other' q i)
