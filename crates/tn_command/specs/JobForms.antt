-- A job whose output is written in a format, and has at most so many bytes (own).
-- Depends on what a job is, and on the formats of a text.
use Rattle.std.specs.Prelude.{◌≡◌, ◌≤◌, ◌<◌, ◌⊎◌, ℕ, List, length, Option, Some, None}
use Rattle.def_script.specs.Program.{Program}
use Rattle.def_formats.specs.Formats.{in_format}
use Rattle.tn_formats.specs.Values.{format_seen}
use Rattle.def_formats.specs.MovedRows.{IsMovedJson}
use Rattle.tn_formats.specs.declared.format.Format.{Format}
use Rattle.tn_formats.specs.declared.format.Format.TheVariants.{Summary, OutputJson, SummaryJson, AccountJson, TextJson, Coloured}
use Rattle.tn_run.specs.Jobs.{FailedEnd, GivesMore, IsOfNoEnd, JobView, no_end_failed}
use Rattle.tn_run.specs.declared.refusal_form.RefusalForm.{RefusalForm}
use Rattle.tn_run.specs.declared.refusal_form.RefusalForm.TheVariants.{Json}
use Rattle.tn_run.specs.declared.fault.RunFault.TheVariants.{OutOfMemory}
use Rattle.tn_run.specs.declared.fault.LiveFault.{LiveFault}
use Rattle.tn_run.specs.declared.fault.LiveFault.TheVariants.{Run}
use Rattle.tn_run.specs.declared.outcome.Outcome.{Outcome}
use Rattle.tn_run.specs.declared.outcome.Outcome.TheVariants.{Listed, Refused}
use Rattle.tn_command.specs.declared.output_fault.OutputFault.{OutputFault}
use Rattle.tn_command.specs.declared.output_fault.OutputFault.TheVariants.{Job, TooLong, ListingsTooLong}
use Rattle.tn_command.specs.declared.output_form.OutputForm.{OutputForm}

-- ---- formats

-- the text in a format, or as it is where none is given
abbrev pub text_in_format : Option Format → List ℕ → List ℕ
text_in_format None text = text
text_in_format (Some format) text = in_format (format_seen format) text

-- the text in a format of a plain text of which this holds
pub record IsTextIn (format : Option Format) (IsPlain : List ℕ → Type 0) (text : List ℕ) : Type 0 where
  pub plain : List ℕ
  pub is_plain : IsPlain plain
  pub text_is : text ≡ text_in_format format plain

-- the job that gives what another one gives, with its output in a format
abbrev pub job_in_text : {O F : Type 0} → Option Format → JobView O F → JobView O F
job_in_text format job = record {
  of_program = λ p outcome output. IsTextIn format (job.of_program p outcome) output;
  refusal_in = job.refusal_in;
  refusal_form = job.refusal_form;
  succeeds = job.succeeds;
  has = job.has;
  reads = job.reads;
  end_of = job.end_of;
}

-- what is written of a program in a format: of an output as JSON with the moves of its messages
abbrev pub IsTextInFormat : Option Format → Program → (plain text : List ℕ) → Type 0
IsTextInFormat None p plain text = text ≡ plain
IsTextInFormat (Some Summary) p plain text = text ≡ text_in_format (Some Summary) plain
IsTextInFormat (Some SummaryJson) p plain text = text ≡ text_in_format (Some SummaryJson) plain
IsTextInFormat (Some OutputJson) p plain text = IsMovedJson p plain text
IsTextInFormat (Some AccountJson) p plain text = text ≡ text_in_format (Some AccountJson) plain
IsTextInFormat (Some TextJson) p plain text = text ≡ text_in_format (Some TextJson) plain
IsTextInFormat (Some Coloured) p plain text = text ≡ text_in_format (Some Coloured) plain

-- that of a plain text of which this holds
pub record IsOutputIn (format : Option Format) (p : Program) (IsPlain : List ℕ → Type 0) (text : List ℕ) : Type 0 where
  pub plain : List ℕ
  pub is_plain : IsPlain plain
  pub text_is : IsTextInFormat format p plain text

-- what is written for a refusal in a format: an object where the output is JSON
abbrev pub refusals_in_format : Option Format → RefusalForm → RefusalForm
refusals_in_format None form = form
refusals_in_format (Some Summary) form = form
refusals_in_format (Some SummaryJson) form = Json
refusals_in_format (Some OutputJson) form = Json
refusals_in_format (Some AccountJson) form = Json
refusals_in_format (Some TextJson) form = Json
refusals_in_format (Some Coloured) form = form

-- the same, with the moves of the messages of an output as JSON, and refusals as objects where it is JSON
abbrev pub job_in : {O F : Type 0} → Option Format → JobView O F → JobView O F
job_in format job = record {
  of_program = λ p outcome output. IsOutputIn format p (job.of_program p outcome) output;
  refusal_in = job.refusal_in;
  refusal_form = refusals_in_format format job.refusal_form;
  succeeds = job.succeeds;
  has = job.has;
  reads = job.reads;
  end_of = job.end_of;
}

-- ---- bounds

-- the output has at most so many bytes
abbrev pub HasAtMost : (most : ℕ) → List ℕ → Type 0
HasAtMost most output = length output ≤ most

-- the output has more bytes, and the fault says how many it has, and how many it may have
pub record IsTooLong {F : Type 0} (most : ℕ) (output : List ℕ) (fault : OutputFault F) : Type 0 where
  pub exceeds : most < length output
  pub says : fault ≡ TooLong (length output) most

-- which end a fault is of: none where the output is too long
abbrev pub output_end_of : {F : Type 0} → (F → FailedEnd) → OutputFault F → FailedEnd
output_end_of end_of (Job fault) = end_of fault
output_end_of end_of (TooLong bytes most) = no_end_failed
output_end_of end_of (ListingsTooLong most) = no_end_failed

-- the job that gives what another one gives, where the output has at most so many bytes
abbrev pub job_within : {O F : Type 0} → (most : ℕ) → JobView O F → JobView O (OutputFault F)
job_within most job = record {
  of_program = λ p outcome output. job.of_program p outcome output × HasAtMost most output;
  refusal_in = job.refusal_in;
  refusal_form = job.refusal_form;
  succeeds = job.succeeds;
  has = job.has;
  reads = job.reads;
  end_of = output_end_of job.end_of;
}

-- why a program has no output within the bound: the job's own fault, or the job gives one that is too long
abbrev pub IsFaultWithin : {O F : Type 0} → (most : ℕ) → JobView O F → Program → OutputFault F → Type 0
IsFaultWithin most job p (Job fault) = IsOfNoEnd job fault
IsFaultWithin {O} most job p (TooLong bytes bound) =
    (outcome : O) × (output : List ℕ) × job.of_program p outcome output × IsTooLong {F = Unit {0}} most output (TooLong bytes bound)
IsFaultWithin most job p (ListingsTooLong bound) = GivesMore most job p × (bound ≡ most)

-- ---- runs by workers

-- the job that gives what another one gives, in this form
abbrev pub job_in_form : {O F : Type 0} → OutputForm → JobView O F → JobView O (OutputFault F)
job_in_form form job = job_within form.most (job_in_text form.format job)

-- the output in a form of a run: a listing in the format, within the bound, and a refusal's line as it is
abbrev pub IsInForm : OutputForm → Outcome → (plain output : List ℕ) → Type 0
IsInForm form Listed plain output = (output ≡ text_in_format form.format plain) × HasAtMost form.most output
IsInForm form (Refused r) plain output = output ≡ plain

-- why a run has no output in a form: memory was refused, or the listing is too long
abbrev pub IsFormFault : OutputForm → Outcome → (plain : List ℕ) → OutputFault LiveFault → Type 0
IsFormFault form Listed plain fault = (fault ≡ Job (Run OutOfMemory)) ⊎ IsTooLong form.most (text_in_format form.format plain) fault
IsFormFault form (Refused r) plain fault = ⊥
