-- What was written is what the status says.
use Rattle.std.proofs.Common.{◌≡◌, ◌∙◌, ◌⊎◌, inl, inr, ℕ, Bool, true, false, if◌then◌else◌, List, Option, Result, Ok, Err, IfOk, refl, sym, subst, arith}
use Rattle.std.specs.Prelude.{◌==◌, ◌&&◌}
use Rattle.tn_text.specs.Watch.{has_failed}
use Rattle.tn_text.specs.declared.watched.Watched.{Watched}
use Rattle.tn_run.specs.Jobs.{Meets, FailedEnd, JobView, Writes, no_end_failed, reader_failed, writer_failed}
use Rattle.tn_command.specs.Flaws.{IsAnswerFlaw}
use Rattle.tn_command.specs.Status.{FAULT_STATUS, IsStatus, IsStrictStatus, IsWrittenAs, LISTED_STATUS, REFUSED_STATUS, UNMET_STATUS, status_of}

written_as : {O F : Type 0} (job : JobView O F) (n : ℕ) (bytes old new : Option (List ℕ)) (o : O) (b : Bool) → job.succeeds o ≡ b
    → n ≡ (if b then LISTED_STATUS else REFUSED_STATUS) → Writes job bytes old new o → IsWrittenAs job n bytes old new
written_as job n bytes old new o true is e w = record { listed = λ z. (o, is, w); refused = λ z. absurd (omega (arith, e, z)) }
written_as job n bytes old new o false is e w = record { listed = λ z. absurd (omega (arith, e, z)); refused = λ z. (o, is, w) }

pub written_so : {O F : Type 0} (job : JobView O F) (n : ℕ) (bytes old new : Option (List ℕ)) (r : Result O F) → n ≡ status_of job r → IfOk r (Writes job bytes old new) → IsWrittenAs job n bytes old new
written_so job n bytes old new (Ok o) e w = written_as job n bytes old new o (job.succeeds o) refl e w
written_so job n bytes old new (Err f) e w = record { listed = λ z. absurd (omega (arith, e, z)); refused = λ z. absurd (omega (arith, e, z)) }

status_is : (n : ℕ) (b : Bool) → n ≡ (if b then LISTED_STATUS else REFUSED_STATUS) → IsStatus n
status_is n true e = inl e
status_is n false e = inr (inl e)

pub has_status : {O F : Type 0} (job : JobView O F) (n : ℕ) (r : Result O F) → n ≡ status_of job r → IsStatus n
has_status job n (Ok o) e = status_is n (job.succeeds o) e
has_status job n (Err f) e = inr (inr (inl e))

pub unflawed_stays : (b : Bool) (n : ℕ) → n ≡ (if b && false then UNMET_STATUS else n)
unflawed_stays true n = refl
unflawed_stays false n = refl

-- a fault keeps its status
pub fault_stays : {O F : Type 0} (strict : Bool) (flaw : O → List ℕ → Bool → Type 0) (answer : Result O F) (fault : F) (bytes : List ℕ) (n : ℕ)
    → answer ≡ Err fault → IsStrictStatus strict (IsAnswerFlaw flaw answer bytes) n n
fault_stays true flaw answer fault bytes n is =
    (Ok false, subst (λ r. IsAnswerFlaw flaw r bytes false) (sym is) refl, unflawed_stays (n == LISTED_STATUS) n)
fault_stays false flaw answer fault bytes n is = refl

no_fault : {P : Type 0} (b : Bool) → FAULT_STATUS ≡ (if b then LISTED_STATUS else REFUSED_STATUS) → P
no_fault true e = absurd (omega (arith, e))
no_fault false e = absurd (omega (arith, e))

module _ {R W O F : Type 0} (job : JobView O F) (known : R → Option (List ℕ)) (reader reader' : Watched R) (gained : W → Option (List ℕ)) (writer writer' : Watched W) where
  by_end : (f : F) (x : FailedEnd) → job.end_of f ≡ x → Meets job known reader reader' gained writer writer' (Err f) → (writer' ≡ writer) ⊎ (has_failed writer' ≡ true)
  by_end f reader_failed e h = inl (h.on_read e).unwritten
  by_end f (writer_failed n) e h = inr (h.on_write n e).failed
  by_end f no_end_failed e h = inl (h.on_neither e).unwritten

  pub untouched_or_failed : (n : ℕ) (r : Result O F) → n ≡ status_of job r → Meets job known reader reader' gained writer writer' r → n ≡ FAULT_STATUS → (writer' ≡ writer) ⊎ (has_failed writer' ≡ true)
  untouched_or_failed n (Ok o) e h z = no_fault (job.succeeds o) (sym z ∙ e)
  untouched_or_failed n (Err f) e h z = by_end f (job.end_of f) refl h
