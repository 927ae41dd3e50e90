-- What a command leaves of a reader's script: what a writer gains, and the exit status (own).
use Rattle.std.specs.Prelude.{◌≡◌, ◌⊎◌, ℕ, Bool, true, List, Option, Result, IfSome, IsOkAnd, OnOk, OnErr}
use Rattle.std.specs.Io.KnownBytes.{Appends}
use Rattle.tn_text.specs.Watch.{watched_inner}
use Rattle.tn_text.specs.declared.watched.Watched.{Watched}
use Rattle.tn_run.specs.Ends.{WritesFront}
use Rattle.tn_run.specs.Jobs.{JobView, WritesSome}
use Rattle.tn_command.specs.Ends.{last_error_inner, tee_inner}
use Rattle.tn_expectation.specs.Expectations.{meets_expectation}
use Rattle.tn_command.specs.Flaws.{IsAnswerFlaw}
use Rattle.tn_command.specs.Status.{IsStrictJudgement, IsWrittenAs, status_of}
use Rattle.tn_expectation.specs.declared.expectation.Expectation.{Expectation}
use Rattle.tn_command.specs.declared.jobs.NamedScript.{NamedScript}

-- the reader of a script, below what keeps its text and its errors
abbrev pub script_inner : {S A : Type 0} → NamedScript S A → S
script_inner script = tee_inner (last_error_inner (watched_inner script.reader))

-- each output is what is expected
abbrev pub IsMetByAll : Expectation → Type 0
IsMetByAll e = (output : List ℕ) → meets_expectation e output ≡ true

-- nothing was written, or the writer failed after it took some first bytes of the output of an outcome
abbrev pub WroteNoneOrFront : {W O F : Type 0} → (W → Option (List ℕ)) → (old new : Watched W) → List ℕ → Result O F → Type 0
WroteNoneOrFront gained old new output answer =
    (new ≡ old) ⊎ ((n : ℕ) × IsOkAnd answer (λ o. WritesFront (gained (watched_inner old)) (gained (watched_inner new)) output n))

-- the job has an answer, for which the writer has gained what its status says. `gained`, `judged`: with an outcome the
-- output that was gained is compared with what is expected, after a strict command line has looked for a flaw.
-- `on_fault`: with a fault nothing was gained, or some first bytes of an output of the reader's bytes
pub record IsPrintedAs {O F : Type 0} (job : JobView O F) (flaw : O → List ℕ → Bool → Type 0) (e : Expectation) (bytes old new : Option (List ℕ)) (n : ℕ) : Type 0 where
  pub answer : Result O F
  pub script : List ℕ
  pub output : List ℕ
  pub written : IsWrittenAs job (status_of job answer) bytes old new
  pub gained : OnOk answer (IfSome bytes (λ bs. Appends old new output))
  pub judged : IsStrictJudgement e.strict (IsAnswerFlaw flaw answer script) (status_of job answer) (meets_expectation e output) n
  pub on_fault : OnErr answer ((new ≡ old) ⊎ ((k : ℕ) × WritesSome job bytes old new k))
