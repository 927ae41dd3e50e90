-- What a command leaves of a reader's script: its job was done, and its output is compared with what is expected.
use Rattle.std.proofs.Common.{◌≡◌, ◌⊎◌, inl, inr, ℕ, Bool, true, List, [], Option, Some, None, Result, Ok, Err, IfOk, refl, sym, ap, subst}
use Rattle.std.specs.Prelude.{◌==◌, IfSome, IsOkAnd, OnOk, OnErr}
use Rattle.std.specs.Io.KnownBytes.{Appends}
use Rattle.tn_text.specs.Watch.{watched_inner}
use Rattle.tn_text.specs.declared.watched.Watched.{Watched}
use Rattle.tn_run.specs.Ends.{WritesFront}
use Rattle.tn_run.specs.Jobs.{FailedEnd, JobView, Meets, Writes, WritesSome, no_end_failed, reader_failed, writer_failed}
use Rattle.tn_expectation.specs.Expectations.{meets_expectation}
use Rattle.tn_command.specs.Flaws.{IsAnswerFlaw}
use Rattle.tn_command.specs.PrintedJobs.{IsMetByAll, IsPrintedAs, WroteNoneOrFront}
use Rattle.tn_command.specs.Status.{IsStrictStatus, LISTED_STATUS, status_after_judgement, status_of}
use Rattle.tn_expectation.specs.declared.expectation.Expectation.{Expectation}
use Rattle.tn_command.proofs.StatusLemmas.{unflawed_stays, written_so}

after_met : (m : ℕ) (b : Bool) → b ≡ true → m ≡ status_after_judgement m b
after_met m b is = subst (λ x. m ≡ status_after_judgement m x) (sym is) (unflawed_stays (m == LISTED_STATUS) m)

-- the output that was gained with an outcome
output_gained : {O F : Type 0} (job : JobView O F) (bytes old new : Option (List ℕ)) (answer : Result O F) → IfOk answer (Writes job bytes old new)
    → (output : List ℕ) × OnOk answer (IfSome bytes (λ bs. Appends old new output))
output_gained job None old new (Ok o) w = ([], tt)
output_gained job (Some bs) old new (Ok o) w = (w.0, w.2)
output_gained job bytes old new (Err f) w = ([], tt)

-- the same of known bytes that are equal
pub printed_along : {O F : Type 0} (job : JobView O F) (flaw : O → List ℕ → Bool → Type 0) (e : Expectation) (bytes bytes' old old' new new' : Option (List ℕ)) (m : ℕ)
    → bytes ≡ bytes' → old ≡ old' → new ≡ new' → IsPrintedAs job flaw e bytes old new m → IsPrintedAs job flaw e bytes' old' new' m
printed_along job flaw e bytes bytes' old old' new new' m is_read is_old is_new h =
    subst (λ b. IsPrintedAs job flaw e b old' new' m) is_read
    (subst (λ o. IsPrintedAs job flaw e bytes o new' m) is_old (subst (λ n. IsPrintedAs job flaw e bytes old n m) is_new h))

module _ {R W O F : Type 0} (job : JobView O F) (known : R → Option (List ℕ)) (reader reader' : Watched R) (gained : W → Option (List ℕ)) (writer writer' : Watched W) where
  by_end : (f : F) (x : FailedEnd) → job.end_of f ≡ x → Meets job known reader reader' gained writer writer' (Err f)
      → (gained (watched_inner writer') ≡ gained (watched_inner writer)) ⊎ ((k : ℕ) × WritesSome job (known (watched_inner reader)) (gained (watched_inner writer)) (gained (watched_inner writer')) k)
  by_end f reader_failed is h = inl (ap (λ w. gained (watched_inner w)) (h.on_read is).unwritten)
  by_end f (writer_failed n) is h = inr (n, (h.on_write n is).written)
  by_end f no_end_failed is h = inl (ap (λ w. gained (watched_inner w)) (h.on_neither is).unwritten)

  pub at_fault : (answer : Result O F) → Meets job known reader reader' gained writer writer' answer
      → OnErr answer ((gained (watched_inner writer') ≡ gained (watched_inner writer)) ⊎ ((k : ℕ) × WritesSome job (known (watched_inner reader)) (gained (watched_inner writer)) (gained (watched_inner writer')) k))
  at_fault (Ok o) h = tt
  at_fault (Err f) h = by_end f (job.end_of f) refl h

  pub prints_plain : (flaw : O → List ℕ → Bool → Type 0) (e : Expectation) (answer : Result O F) (script : List ℕ) (n m : ℕ) → n ≡ status_of job answer
      → Meets job known reader reader' gained writer writer' answer → IsMetByAll e → IsStrictStatus e.strict (IsAnswerFlaw flaw answer script) n m
      → IsPrintedAs job flaw e (known (watched_inner reader)) (gained (watched_inner writer)) (gained (watched_inner writer')) m
  prints_plain flaw e answer script n m is h met strict =
      let bytes = known (watched_inner reader) in
      let old = gained (watched_inner writer) in
      let new = gained (watched_inner writer') in
      let o = output_gained job bytes old new answer h.written in
      record {
        answer = answer;
        script = script;
        output = o.0;
        written = written_so job (status_of job answer) bytes old new answer refl h.written;
        gained = o.1;
        judged = (m, subst (λ k. IsStrictStatus e.strict (IsAnswerFlaw flaw answer script) k m) is strict, after_met m (meets_expectation e o.0) (met o.0));
        on_fault = at_fault answer h;
      }

-- ---- where the output was kept in memory

-- a writer that is as it was has known bytes as they were
pub front_so : {W O F : Type 0} (gained : W → Option (List ℕ)) (writer writer' : Watched W) (items : List ℕ) (end answer : Result O F) → OnErr answer (WroteNoneOrFront gained writer writer' items end)
    → OnErr answer ((gained (watched_inner writer') ≡ gained (watched_inner writer))
    ⊎ ((k : ℕ) × IsOkAnd end (λ o. WritesFront (gained (watched_inner writer)) (gained (watched_inner writer')) items k)))
front_so gained writer writer' items end (Ok o) h = tt
front_so gained writer writer' items end (Err f) (inl same) = inl (ap (λ w. gained (watched_inner w)) same)
front_so gained writer writer' items end (Err f) (inr some) = inr some

module _ {O F : Type 0} (job : JobView O F) (bytes old new : Option (List ℕ)) (items : List ℕ) where
  writes_all : (b : Option (List ℕ)) (o : O) → Writes job b (Some []) (Some items) o → Appends old new items → Writes job b old new o
  writes_all None o w a = tt
  writes_all (Some bs) o w a = (w.0, w.1, subst (Appends old new) w.2 a)

  writes_some : (b : Option (List ℕ)) (o : O) (k : ℕ) → Writes job b (Some []) (Some items) o → WritesFront old new items k → WritesSome job b old new k
  writes_some None o k w f = tt
  writes_some (Some bs) o k w f = (o, w.0, w.1, subst (λ t. WritesFront old new t k) w.2 f)

  all_so : (end answer : Result O F) → IfOk end (Writes job bytes (Some []) (Some items)) → IfOk answer (λ o. end ≡ Ok o) → OnOk answer (Appends old new items)
      → IfOk answer (Writes job bytes old new)
  all_so end (Ok o) w is a = writes_all bytes o (subst (λ r. IfOk r (Writes job bytes (Some []) (Some items))) is w) a
  all_so end (Err f) w is a = tt

  gains_so : (answer : Result O F) (b : Option (List ℕ)) → OnOk answer (Appends old new items) → OnOk answer (IfSome b (λ bs. Appends old new items))
  gains_so (Ok o) None a = tt
  gains_so (Ok o) (Some bs) a = a
  gains_so (Err f) b a = tt

  some_so : (end : Result O F) (k : ℕ) → IfOk end (Writes job bytes (Some []) (Some items)) → IsOkAnd end (λ o. WritesFront old new items k) → WritesSome job bytes old new k
  some_so (Ok o) k w f = writes_some bytes o k w f
  some_so (Err x) k w f = absurd f

  fault_so : (end answer : Result O F) → IfOk end (Writes job bytes (Some []) (Some items))
      → OnErr answer ((new ≡ old) ⊎ ((k : ℕ) × IsOkAnd end (λ o. WritesFront old new items k))) → OnErr answer ((new ≡ old) ⊎ ((k : ℕ) × WritesSome job bytes old new k))
  fault_so end (Ok o) w f = tt
  fault_so end (Err x) w (inl same) = inl same
  fault_so end (Err x) w (inr some) = inr (some.0, some_so end some.0 w some.1)

  pub prints_kept : (flaw : O → List ℕ → Bool → Type 0) (e : Expectation) (end answer : Result O F) (script : List ℕ) (n k m : ℕ) → n ≡ status_of job answer
      → IfOk end (Writes job bytes (Some []) (Some items)) → IfOk answer (λ o. end ≡ Ok o) → OnOk answer (Appends old new items)
      → OnErr answer ((new ≡ old) ⊎ ((i : ℕ) × IsOkAnd end (λ o. WritesFront old new items i)))
      → IsStrictStatus e.strict (IsAnswerFlaw flaw answer script) n k → m ≡ status_after_judgement k (meets_expectation e items) → IsPrintedAs job flaw e bytes old new m
  prints_kept flaw e end answer script n k m is w same all front strict judged = record {
    answer = answer;
    script = script;
    output = items;
    written = written_so job (status_of job answer) bytes old new answer refl (all_so end answer w same all);
    gained = gains_so answer bytes all;
    judged = (k, subst (λ x. IsStrictStatus e.strict (IsAnswerFlaw flaw answer script) x k) is strict, judged);
    on_fault = fault_so end answer w front;
  }
