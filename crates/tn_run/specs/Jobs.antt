-- What a job is, and what doing it says of a reader, a writer and an answer (own).
-- Depends on the known bytes of readers and writers, on which scripts are accepted or refused, and on what is written
-- for a refusal.
use Rattle.std.specs.Prelude.{◌≡◌, ◌≢◌, ◌<◌, ℕ, Bool, true, List, length, Option, Some, None, IfSome, MatchOption, Result, IfOk, IfErr, OnOk}
use Rattle.std.specs.Io.KnownBytes.{Appends}
use Rattle.std.specs.declared.vec.Vec.{Vec}
use Rattle.def_script.specs.Program.{Program}
use Rattle.def_script.specs.Script as script
use Rattle.def_script.specs.Script.{Refusal, IsScript, IsRefused}
use Rattle.tn_text.specs.Watch.{watched_inner, has_failed, is_flushed}
use Rattle.tn_text.specs.declared.watched.Watched.{Watched}
use Rattle.tn_run.specs.Ends.{TakesFront, TookText, WritesFront}
use Rattle.tn_program.specs.Views.{program_of}
use Rattle.tn_run.specs.RefusalForms.{IsRefusalOutput, text_of_refusal}
use Rattle.tn_run.specs.declared.refusal_form.RefusalForm.{RefusalForm}
use Rattle.tn_run.specs.declared.job.Reading.{Reading}
use Rattle.tn_run.specs.declared.job.Reading.TheVariants.{Accepted, Refused}
use Rattle.tn_run.specs.declared.fault.RunFault.{RunFault}
use Rattle.tn_run.specs.declared.fault.RunFault.TheVariants.{Read, Write, OutOfMemory}

-- which end failed, if one did; a writer that failed had taken so many bytes of the output
pub data FailedEnd : Type 0 where
  reader_failed : FailedEnd
  writer_failed : ℕ → FailedEnd
  no_end_failed : FailedEnd

abbrev pub failed_end : RunFault → FailedEnd
failed_end Read = reader_failed
failed_end (Write n) = writer_failed n
failed_end OutOfMemory = no_end_failed

-- a job: the outcome and the output that it gives for the program of an accepted script, the refusal that an outcome
-- is, what is written for a refusal, whether an outcome is what was asked for, what else each outcome has, whether the
-- job reads the script at all, and of which end its faults are
pub record JobView (O F : Type 0) : Type 1 where
  pub of_program : Program → O → List ℕ → Type 0
  pub refusal_in : O → Option Refusal
  pub refusal_form : RefusalForm
  pub succeeds : O → Bool
  pub has : O → Type 0
  pub reads : Type 0
  pub end_of : F → FailedEnd

-- this holds of the program of the bytes, which are an accepted script
pub record OfScript (bytes : List ℕ) (holds : Program → Type 0) : Type 0 where
  pub program : Program
  pub accepted : IsScript bytes program
  pub output : holds program

-- a job that doesn't read the script is refused for its picks, and one that reads it for the script
abbrev pub IsJobRefusal : (reads : Type 0) → List ℕ → Refusal → Type 0
IsJobRefusal reads bytes script.bad_picks = reads → ⊥
IsJobRefusal reads bytes r = reads × IsRefused bytes r

-- the outcome and the output that the job gives for these bytes
abbrev pub Gives : {O F : Type 0} → JobView O F → List ℕ → O → List ℕ → Type 0
Gives job bytes outcome output =
    MatchOption (job.refusal_in outcome) (OfScript bytes (λ p. job.of_program p outcome output))
    (λ r. IsJobRefusal job.reads bytes r × IsRefusalOutput job.refusal_form (text_of_refusal r bytes) r output)

-- neither the reader nor the writer failed
abbrev pub IsOfNoEnd : {O F : Type 0} → JobView O F → F → Type 0
IsOfNoEnd job fault = job.end_of fault ≡ no_end_failed

-- ---- of known bytes, where there are any

-- the writer has gained the output of the reader's bytes, and nothing else
abbrev pub Writes : {O F : Type 0} → JobView O F → (bytes old new : Option (List ℕ)) → O → Type 0
Writes job bytes old new outcome = IfSome bytes (λ bs. (output : List ℕ) × Gives job bs outcome output × Appends old new output)

-- the writer has gained the first n bytes of an output of the reader's bytes
abbrev pub WritesSome : {O F : Type 0} → JobView O F → (bytes old new : Option (List ℕ)) → ℕ → Type 0
WritesSome {O} job bytes old new n = IfSome bytes (λ bs. (outcome : O) × (output : List ℕ) × Gives job bs outcome output × WritesFront old new output n)

-- ---- of a watched reader and writer, each with the function that tells the known bytes of what is watched

-- where the job reads, the text was read to its end, or to one byte past the limit; and no read failed
pub record ReadsAll {R : Type 0} (reads : Type 0) (known : R → Option (List ℕ)) (reader reader' : Watched R) : Type 0 where
  pub taken : reads → (text : List ℕ) × TookText known reader reader' text
  pub unfailed : has_failed reader' ≡ has_failed reader

-- a read failed, and nothing was written
pub record FailsRead {R W : Type 0} (reader' : Watched R) (writer writer' : Watched W) : Type 0 where
  pub failed : has_failed reader' ≡ true
  pub unwritten : writer' ≡ writer

-- all was read, and a write or the flush failed once n bytes of the output were taken
pub record FailsWrite {R W O F : Type 0} (job : JobView O F) (n : ℕ) (known : R → Option (List ℕ)) (reader reader' : Watched R) (gained : W → Option (List ℕ)) (writer writer' : Watched W) : Type 0 where
  pub failed : has_failed writer' ≡ true
  pub written : WritesSome job (known (watched_inner reader)) (gained (watched_inner writer)) (gained (watched_inner writer')) n
  pub read : ReadsAll job.reads known reader reader'

-- no read failed, and nothing was written
pub record FailsInside {R W : Type 0} (reader reader' : Watched R) (writer writer' : Watched W) : Type 0 where
  pub unfailed : has_failed reader' ≡ has_failed reader
  pub unwritten : writer' ≡ writer

-- the job was done with the whole text of the reader, and its whole output was written, or a fault says why not.
-- `written`, `flushed`, `unfailed`: with an outcome the writer has gained the output of the reader's bytes and nothing
-- else. `read`: all was read then. `consumed`: whatever the answer, nothing was taken of the reader but a prefix of at
-- most 1,048,577 bytes, and nothing (`unread`) where the job doesn't read. `on_read`, `on_write`, `on_neither`: a fault
-- says which end failed, and only a write that failed has written anything
pub record Meets {R W O F : Type 0} (job : JobView O F) (known : R → Option (List ℕ)) (reader reader' : Watched R) (gained : W → Option (List ℕ)) (writer writer' : Watched W) (result : Result O F) : Type 0 where
  pub written : IfOk result (Writes job (known (watched_inner reader)) (gained (watched_inner writer)) (gained (watched_inner writer')))
  pub flushed : OnOk result (is_flushed writer' ≡ true)
  pub unfailed : OnOk result (has_failed writer' ≡ has_failed writer)
  pub outcome : IfOk result job.has
  pub read : OnOk result (ReadsAll job.reads known reader reader')
  pub consumed : TakesFront (known (watched_inner reader)) (known (watched_inner reader'))
  pub unread : (job.reads → ⊥) → reader' ≡ reader
  pub on_read : IfErr result (λ e. job.end_of e ≡ reader_failed → FailsRead reader' writer writer')
  pub on_write : IfErr result (λ e. (n : ℕ) → job.end_of e ≡ writer_failed n → FailsWrite job n known reader reader' gained writer writer')
  pub on_neither : IfErr result (λ e. IsOfNoEnd job e → FailsInside reader reader' writer writer')

-- the same before anything is written: an outcome and an output that the job gives for the reader's bytes
pub record Prepares {R O F A : Type 0} (job : JobView O F) (known : R → Option (List ℕ)) (reader reader' : Watched R) (result : Result (O × Vec ℕ A) F) : Type 0 where
  pub given : IfOk result (λ r. IfSome (known (watched_inner reader)) (λ bytes. Gives job bytes r.0 r.1.items))
  pub outcome : IfOk result (λ r. job.has r.0)
  pub read : OnOk result (ReadsAll job.reads known reader reader')
  pub consumed : TakesFront (known (watched_inner reader)) (known (watched_inner reader'))
  pub unread : (job.reads → ⊥) → reader' ≡ reader
  pub on_read : IfErr result (λ e. job.end_of e ≡ reader_failed → has_failed reader' ≡ true)
  pub no_write : IfErr result (λ e. (n : ℕ) → job.end_of e ≢ writer_failed n)
  pub on_neither : IfErr result (λ e. IsOfNoEnd job e → has_failed reader' ≡ has_failed reader)

-- an answer for the program of an accepted script
pub record IsProgramAnswer {O F : Type 0} (job : JobView O F) (p : Program) (outcome : O) (output : List ℕ) : Type 0 where
  pub given : job.of_program p outcome output
  pub accepted : job.refusal_in outcome ≡ None
  pub outcome_has : job.has outcome

-- what the job gives for the program has more bytes
pub record GivesMore {O F : Type 0} (most : ℕ) (job : JobView O F) (p : Program) : Type 0 where
  pub outcome : O
  pub output : List ℕ
  pub given : job.of_program p outcome output
  pub exceeds : most < length output

-- an answer for the program; none only where the output has more bytes
abbrev pub IsAnswerWithin : {O F A : Type 0} → (most : ℕ) → JobView O F → Program → Option (O × Vec ℕ A) → Type 0
IsAnswerWithin most job p None = GivesMore most job p
IsAnswerWithin most job p (Some answer) = IsProgramAnswer job p answer.0 answer.1.items

-- the refusal as an outcome, and the form of what is written for it
pub record IsRefusalOutcome {O F : Type 0} (job : JobView O F) (r : Refusal) (outcome : O) (form : RefusalForm) : Type 0 where
  pub refused : job.refusal_in outcome ≡ Some r
  pub outcome_has : job.has outcome
  pub form_is : form ≡ job.refusal_form

-- ---- what is read

-- the refusal of these bytes was found
abbrev pub IsRefusalReading : {O F A : Type 0} → JobView O F → (bytes : List ℕ) → Refusal → Reading O A → Type 0
IsRefusalReading job bytes r (Accepted picks program) = ⊥
IsRefusalReading job bytes r (Refused outcome text) =
    (job.refusal_in outcome ≡ Some r) × job.has outcome × IsRefusalOutput job.refusal_form (text_of_refusal r bytes) r text.items

-- what these bytes come to: the program that they are, with picks that the job takes, or what the job gives for their refusal
abbrev pub IsReadingOf : {O F A : Type 0} → JobView O F → (List ℕ → Type 0) → List ℕ → Reading O A → Type 0
IsReadingOf job takes bytes (Accepted picks program) = takes picks.items × IsScript bytes (program_of program)
IsReadingOf job takes bytes (Refused outcome text) = job.has outcome × Gives job bytes outcome text.items

-- the same, where the reader's bytes are known
abbrev pub IsReading : {O F A : Type 0} → JobView O F → (List ℕ → Type 0) → Option (List ℕ) → Reading O A → Type 0
IsReading job takes bytes (Accepted picks program) = takes picks.items × IfSome bytes (λ bs. IsScript bs (program_of program))
IsReading job takes bytes (Refused outcome text) = job.has outcome × IfSome bytes (λ bs. Gives job bs outcome text.items)

-- the picks and the reader were read, and this is what they come to
pub record ReadsScript {R O F A : Type 0} (job : JobView O F) (takes : List ℕ → Type 0) (known : R → Option (List ℕ)) (reader reader' : Watched R) (result : Result (Reading O A) F) : Type 0 where
  pub reading : IfOk result (IsReading job takes (known (watched_inner reader)))
  pub read : OnOk result (ReadsAll job.reads known reader reader')
  pub consumed : TakesFront (known (watched_inner reader)) (known (watched_inner reader'))
  pub unread : (job.reads → ⊥) → reader' ≡ reader
  pub on_read : IfErr result (λ e. job.end_of e ≡ reader_failed → has_failed reader' ≡ true)
  pub no_write : IfErr result (λ e. (n : ℕ) → job.end_of e ≢ writer_failed n)
  pub on_neither : IfErr result (λ e. IsOfNoEnd job e → has_failed reader' ≡ has_failed reader)
