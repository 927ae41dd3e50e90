-- What a job gives for a text that was read, and what was done with a reader and a writer.
use Rattle.std.proofs.Common.{◌≡◌, ◌∙◌, ◌⊎◌, inl, inr, ℕ, true, List, Option, None, Some, IfSome, Ok, Err, refl, ap, subst}
use Rattle.std.specs.declared.vec.Vec.{Vec}
use Rattle.def_script.specs.Script as script
use Rattle.def_script.specs.Script.{Refusal, IsRefused, too_long}
use Rattle.tn_text.specs.Watch.{watched_inner, has_failed}
use Rattle.tn_text.specs.declared.watched.Watched.{Watched}
use Rattle.tn_run.specs.Ends.{WritesFront, WroteFront}
use Rattle.tn_run.specs.Jobs.{Meets, IsJobRefusal, JobView, Prepares, failed_end, writer_failed}
use Rattle.tn_run.specs.declared.fault.RunFault.{RunFault}

-- ---- refusals

-- a refusal is of the picks alone, or of the bytes
pub refused_by : (reads : Type 0) (bytes : List ℕ) (r : Refusal) → IsJobRefusal reads bytes r → ((reads → ⊥) × (r ≡ script.bad_picks)) ⊎ (reads × IsRefused bytes r)
refused_by reads bytes script.too_long h = inr h
refused_by reads bytes (script.token at) h = inr h
refused_by reads bytes (script.too_deep at) h = inr h
refused_by reads bytes (script.too_large at) h = inr h
refused_by reads bytes (script.form n) h = inr h
refused_by reads bytes script.too_many_forms h = inr h
refused_by reads bytes (script.broken r n) h = inr h
refused_by reads bytes script.bad_picks h = inl (h, refl)

-- ---- what is done

if_some_of : {X : Type 0} {P Q : X → Type 0} → ((x : X) → P x → Q x) → (known : Option X) → IfSome known P → IfSome known Q
if_some_of f None h = tt
if_some_of f (Some x) h = f x h

module _ {R W O F A : Type 0} (job : JobView O F) (known : R → Option (List ℕ)) (reader reader' : Watched R) (gained : W → Option (List ℕ)) (writer writer' : Watched W) where
  pub does_front : (o : O) (output : Vec ℕ A) (fault : RunFault) (e : F) → Prepares job known reader reader' (Ok (o, output)) → WroteFront gained writer writer' output.items fault
      → has_failed writer' ≡ true → job.end_of e ≡ failed_end fault → Meets job known reader reader' gained writer writer' (Err e)
  does_front o output fault e h front failed end =
      let (m, is, wrote) = front in
      let at : job.end_of e ≡ writer_failed m = end ∙ ap failed_end is in
      record {
        written = tt;
        flushed = tt;
        unfailed = tt;
        outcome = tt;
        read = tt;
        consumed = h.consumed;
        unread = h.unread;
        on_read = λ i. absurd (cc (at, i));
        on_write = λ n i. (
            let same : m ≡ n = cc (at, i) in
            record {
              failed = failed;
              written = if_some_of (λ bytes g. (o, output.items, g, subst (λ k. WritesFront (gained (watched_inner writer)) (gained (watched_inner writer')) output.items k) same wrote)) (known (watched_inner reader)) h.given;
              read = h.read;
            }
            );
        on_neither = λ i. absurd (cc (at, i));
      }
