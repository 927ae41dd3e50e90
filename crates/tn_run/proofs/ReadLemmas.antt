-- What was read of a script, and the answer that belongs to it.
use Rattle.std.proofs.Common.{◌≡◌, ◌≢◌, ◌∙◌, ℕ, ◌≤◌, List, [], ◌++◌, length, Option, None, Some, IfSome, MatchOption, Result, Ok, Err, IfOk, IfErr, sym, subst, ap, append-nil, arith}
use Rattle.std.specs.declared.vec.Vec.{Vec}
use Rattle.def_script.specs.Program as defined
use Rattle.def_script.specs.Script.{IsScript}
use Rattle.tn_text.specs.Watch.{watched_inner, has_failed}
use Rattle.tn_text.specs.declared.watched.Watched.{Watched}
use Rattle.tn_program.specs.Views.{program_of}
use Rattle.tn_program.specs.declared.parts.Program.{Program}
use Rattle.tn_run.specs.Ends.{TakesFront, TakesText, TookText}
use Rattle.tn_run.specs.Jobs.{FailedEnd, Gives, IsJobRefusal, IsOfNoEnd, IsProgramAnswer, IsReading, IsReadingOf, JobView, OfScript, Prepares, ReadsScript, no_end_failed, reader_failed, writer_failed}
use Rattle.tn_run.specs.RefusalForms.{IsRefusalOutput, text_of_refusal}
use Rattle.tn_run.specs.declared.job.Reading.{Reading}
use Rattle.tn_run.specs.declared.job.Reading.TheVariants.{Accepted, Refused}

-- where the text within the limit was taken, it was all that the reader had
whole_text : (P : List ℕ → Type 0) (old new : Option (List ℕ)) (text : List ℕ) → TakesText old new text → length text ≤ 1048576 → P text → IfSome old P
whole_text P None new text takes short h = tt
whole_text P (Some bytes) None text takes short h = absurd takes.consumed
whole_text P (Some bytes) (Some rest) text takes short h =
    let end : rest ≡ [] = takes.whole (omega arith) in
    let same : text ≡ bytes = sym (takes.consumed ∙ ap (λ l. text ++ l) end ∙ append-nil text) in
    subst P same h

no_end_of_reader : {P : Type 0} (x : FailedEnd) → x ≡ no_end_failed → x ≡ reader_failed → P
no_end_of_reader x e i = cc

no_end_of_writer : (x : FailedEnd) (n : ℕ) → x ≡ no_end_failed → x ≢ writer_failed n
no_end_of_writer x n e = λ i. cc

if_some_by : {X : Type 0} {P Q : X → Type 0} → ((x : X) → P x → Q x) → (known : Option X) → IfSome known P → IfSome known Q
if_some_by f None h = tt
if_some_by f (Some x) h = f x h

gives_program : {O F : Type 0} (job : JobView O F) (bytes : List ℕ) (p : defined.Program) (o : O) (output : List ℕ) → IsProgramAnswer job p o output → IsScript bytes p → Gives job bytes o output
gives_program job bytes p o output h accepted =
    subst (λ r. MatchOption r (OfScript bytes (λ q. job.of_program q o output)) (λ s. IsJobRefusal job.reads bytes s × IsRefusalOutput job.refusal_form (text_of_refusal s bytes) s output)) (sym h.accepted) (record { program = p; accepted = accepted; output = h.given })

module _ {R O F A : Type 0} (job : JobView O F) (takes : List ℕ → Type 0) (known : R → Option (List ℕ)) (reader reader' : Watched R) where
  reading_whole : (text : List ℕ) (r : Reading O A) → TookText known reader reader' text → length text ≤ 1048576 → IsReadingOf job takes text r → IsReading job takes (known (watched_inner reader)) r
  reading_whole text (Accepted picks program) took short h = (h.0, whole_text (λ bs. IsScript bs (program_of program)) _ _ text took short h.1)
  reading_whole text (Refused outcome line) took short h = (h.0, whole_text (λ bs. Gives job bs outcome line.items) _ _ text took short h.1)

  -- a text within the limit was read
  pub read_whole : (text : List ℕ) (result : Result (Reading O A) F) → TookText known reader reader' text → has_failed reader' ≡ has_failed reader
      → TakesFront (known (watched_inner reader)) (known (watched_inner reader')) → job.reads → length text ≤ 1048576
      → IfOk result (IsReadingOf job takes text) → IfErr result (IsOfNoEnd job) → ReadsScript job takes known reader reader' result
  read_whole text (Ok r) took same front reads short h none = record {
    reading = reading_whole text r took short h;
    read = record { taken = λ s. (text, took); unfailed = same };
    consumed = front;
    unread = λ n. absurd (n reads);
    on_read = tt;
    no_write = tt;
    on_neither = tt;
  }
  read_whole text (Err e) took same front reads short h none = record {
    reading = tt;
    read = tt;
    consumed = front;
    unread = λ n. absurd (n reads);
    on_read = no_end_of_reader (job.end_of e) none;
    no_write = λ n. no_end_of_writer (job.end_of e) n none;
    on_neither = λ i. same;
  }

  answered : {B : Type 0} (picks : Vec ℕ A) (program : Program A) (result : Result (O × Vec ℕ B) F) → ReadsScript job takes known reader reader' (Ok (Accepted picks program))
      → IfOk result (λ r. IsProgramAnswer job (program_of program) r.0 r.1.items) → IfErr result (IsOfNoEnd job) → Prepares job known reader reader' result
  answered picks program (Ok r) h answer none = record {
    given = if_some_by (λ bytes. gives_program job bytes (program_of program) r.0 r.1.items answer) (known (watched_inner reader)) h.reading.1;
    outcome = answer.outcome_has;
    read = h.read;
    consumed = h.consumed;
    unread = h.unread;
    on_read = tt;
    no_write = tt;
    on_neither = tt;
  }
  answered picks program (Err e) h answer none = record {
    given = tt;
    outcome = tt;
    read = tt;
    consumed = h.consumed;
    unread = h.unread;
    on_read = no_end_of_reader (job.end_of e) none;
    no_write = λ n. no_end_of_writer (job.end_of e) n none;
    on_neither = λ i. h.read.unfailed;
  }

  -- the script was accepted, and this is the answer for its program
  pub prepared_answer : {B : Type 0} (x : Reading O A) (picks : Vec ℕ A) (program : Program A) (result : Result (O × Vec ℕ B) F) → x ≡ Accepted picks program → ReadsScript job takes known reader reader' (Ok x)
      → IfOk result (λ r. IsProgramAnswer job (program_of program) r.0 r.1.items) → IfErr result (IsOfNoEnd job) → Prepares job known reader reader' result
  prepared_answer x picks program result is h = answered picks program result (subst (λ y. ReadsScript job takes known reader reader' (Ok y)) is h)

  refused : {B : Type 0} (outcome : O) (line : Vec ℕ A) (result : Result (O × Vec ℕ B) F) → ReadsScript job takes known reader reader' (Ok (Refused outcome line))
      → IfOk result (λ r. (r.0 ≡ outcome) × (r.1.items ≡ line.items)) → IfErr result (IsOfNoEnd job) → Prepares job known reader reader' result
  refused outcome line (Ok r) h same none = record {
    given = subst (λ o. IfSome (known (watched_inner reader)) (λ bytes. Gives job bytes o r.1.items)) (sym same.0)
        (subst (λ l. IfSome (known (watched_inner reader)) (λ bytes. Gives job bytes outcome l)) (sym same.1) h.reading.1);
    outcome = subst job.has (sym same.0) h.reading.0;
    read = h.read;
    consumed = h.consumed;
    unread = h.unread;
    on_read = tt;
    no_write = tt;
    on_neither = tt;
  }
  refused outcome line (Err e) h same none = record {
    given = tt;
    outcome = tt;
    read = tt;
    consumed = h.consumed;
    unread = h.unread;
    on_read = no_end_of_reader (job.end_of e) none;
    no_write = λ n. no_end_of_writer (job.end_of e) n none;
    on_neither = λ i. h.read.unfailed;
  }

  -- the script was refused, and this is the outcome with the line
  pub prepared_refusal : {B : Type 0} (x : Reading O A) (outcome : O) (line : Vec ℕ A) (result : Result (O × Vec ℕ B) F) → x ≡ Refused outcome line → ReadsScript job takes known reader reader' (Ok x)
      → IfOk result (λ r. (r.0 ≡ outcome) × (r.1.items ≡ line.items)) → IfErr result (IsOfNoEnd job) → Prepares job known reader reader' result
  prepared_refusal x outcome line result is h = refused outcome line result (subst (λ y. ReadsScript job takes known reader reader' (Ok y)) is h)
