-- The exit status of a trial, and what it writes (own).
use Rattle.std.specs.Prelude.{◌≡◌, ℕ, true, List, [], ◌∷◌, ◌++◌, codes, Option, Some, Result, Ok, Err, IfErr, OnOk}
use Rattle.std.specs.Io.KnownBytes.{Appends}
use Rattle.std.specs.Process.{exit_status}
use Rattle.std.specs.declared.process.ExitCode.{ExitCode}
use Rattle.tn_text.specs.Watch.{watched_inner, has_failed, is_flushed}
use Rattle.tn_text.specs.declared.watched.Watched.{Watched}
use Rattle.tn_verdict.specs.SpecTestInputs.{IsAnswerTo, IsNoAnswer}
use Rattle.tn_verdict.specs.declared.spec_test_input.SpecTestInput.{SpecTestInput}
use Rattle.tn_verdict.specs.declared.spec_test_input.SpecTestFault.{SpecTestFault}
use Rattle.tn_verdict.specs.declared.spec_test_input.SpecTestFault.TheVariants.{OutOfMemory}
use Rattle.tn_formats.specs.declared.format.Format.{Format}
use Rattle.tn_run.specs.Ends.{WroteAll, WroteFront}
use Rattle.tn_command.specs.JobForms.{IsTextIn}
use Rattle.tn_command.specs.Status.{LISTED_STATUS, REFUSED_STATUS, FAULT_STATUS}
use Rattle.tn_command.specs.declared.spec_test.SpecTestRunFault.{SpecTestRunFault}
use Rattle.tn_command.specs.declared.spec_test.SpecTestRunFault.TheVariants as faults

-- 0 for an answer, 2 where a text isn't what it should be, 3 for any other fault
abbrev pub spec_test_status_of : {A : Type 0} → Result Unit (SpecTestRunFault A) → ℕ
spec_test_status_of (Ok u) = LISTED_STATUS
spec_test_status_of (Err (faults.SpecTestInput OutOfMemory)) = FAULT_STATUS
spec_test_status_of (Err (faults.SpecTestInput f)) = REFUSED_STATUS
spec_test_status_of (Err (faults.Run f)) = FAULT_STATUS

-- with status 0 such a text of the answer was written, and with 2 nothing, for the fault of the first text that isn't what it should be
pub record IsTriedAs {A : Type 0} (IsAnswer : List ℕ → Type 0) (n : ℕ) (q : SpecTestInput) (old new : Option (List ℕ)) (r : Result Unit (SpecTestRunFault A)) : Type 0 where
  pub listed : n ≡ LISTED_STATUS → (text : List ℕ) × IsAnswer text × Appends old new text
  pub refused : n ≡ REFUSED_STATUS → (new ≡ old) × (f : SpecTestFault A) × (r ≡ Err (faults.SpecTestInput f)) × IsNoAnswer q f

-- 0 only where the question has an answer
abbrev pub HasAnswerIfListed : SpecTestInput → ℕ → Type 0
HasAnswerIfListed q n = n ≡ LISTED_STATUS → (text : List ℕ) × IsAnswerTo q text

-- the texts that the answer has in a format
abbrev pub IsAnswerIn : Format → SpecTestInput → List ℕ → Type 0
IsAnswerIn format q text = IsTextIn (Some format) (IsAnswerTo q) text

-- the line before the answer for a list, where there are several lists
abbrev pub list_head : List ℕ → List ℕ
list_head list = codes "list " ++ list ++ 10 ∷ []

-- that line and the answer
abbrev pub IsHeadedAnswer : SpecTestInput → List ℕ → Type 0
IsHeadedAnswer q text = (answer : List ℕ) × IsAnswerTo q answer × (text ≡ list_head q.list.now ++ answer)

-- in a format, where one is given
abbrev pub IsHeadedAnswerIn : Option Format → SpecTestInput → List ℕ → Type 0
IsHeadedAnswerIn format q text = IsTextIn format (IsHeadedAnswer q) text

-- the same of a watched writer, with the function that tells the known bytes of what is watched
abbrev pub TriedAs : {A W : Type 0} → ExitCode → SpecTestInput → (W → Option (List ℕ)) → (old new : Watched W) → Result Unit (SpecTestRunFault A) → Type 0
TriedAs status q gained old new r = IsTriedAs (IsAnswerTo q) (exit_status status) q (gained (watched_inner old)) (gained (watched_inner new)) r

-- and of an answer in a format
abbrev pub TriedIn : {A W : Type 0} → Format → ExitCode → SpecTestInput → (W → Option (List ℕ)) → (old new : Watched W) → Result Unit (SpecTestRunFault A) → Type 0
TriedIn format status q gained old new r = IsTriedAs (IsAnswerIn format q) (exit_status status) q (gained (watched_inner old)) (gained (watched_inner new)) r

-- and of one after its list
abbrev pub HeadedIn : {A W : Type 0} → Option Format → ExitCode → SpecTestInput → (W → Option (List ℕ)) → (old new : Watched W) → Result Unit (SpecTestRunFault A) → Type 0
HeadedIn format status q gained old new r = IsTriedAs (IsHeadedAnswerIn format q) (exit_status status) q (gained (watched_inner old)) (gained (watched_inner new)) r

-- ---- with what it does to the writer

-- nothing was written, for the fault of the first text that isn't what it should be; or the writer failed, and had
-- taken a front of such a text of the answer
abbrev pub IsSpecTestEnd : {A W : Type 0} → (List ℕ → Type 0) → SpecTestInput → (W → Option (List ℕ)) → (old new : Watched W) → SpecTestRunFault A → Type 0
IsSpecTestEnd IsAnswer q gained old new (faults.SpecTestInput f) = IsNoAnswer q f × (new ≡ old)
IsSpecTestEnd IsAnswer q gained old new (faults.Run f) = (has_failed new ≡ true) × (text : List ℕ) × IsAnswer text × WroteFront gained old new text f

-- such a text of the answer was written whole and flushed, or a fault says why not
pub record MeetsSpecTestBy {A W : Type 0} (IsAnswer : List ℕ → Type 0) (q : SpecTestInput) (gained : W → Option (List ℕ)) (old new : Watched W) (r : Result Unit (SpecTestRunFault A)) : Type 0 where
  pub written : OnOk r ((text : List ℕ) × IsAnswer text × WroteAll gained old new text)
  pub flushed : OnOk r (is_flushed new ≡ true)
  pub unfailed : OnOk r (has_failed new ≡ has_failed old)
  pub fault : IfErr r (IsSpecTestEnd IsAnswer q gained old new)

-- the whole answer was, or its text in a format
abbrev pub MeetsSpecTest : {A W : Type 0} → SpecTestInput → (W → Option (List ℕ)) → (old new : Watched W) → Result Unit (SpecTestRunFault A) → Type 0
MeetsSpecTest q gained old new r = MeetsSpecTestBy (IsAnswerTo q) q gained old new r

abbrev pub MeetsSpecTestIn : {A W : Type 0} → Format → SpecTestInput → (W → Option (List ℕ)) → (old new : Watched W) → Result Unit (SpecTestRunFault A) → Type 0
MeetsSpecTestIn format q gained old new r = MeetsSpecTestBy (IsAnswerIn format q) q gained old new r

abbrev pub MeetsHeadedTest : {A W : Type 0} → Option Format → SpecTestInput → (W → Option (List ℕ)) → (old new : Watched W) → Result Unit (SpecTestRunFault A) → Type 0
MeetsHeadedTest format q gained old new r = MeetsSpecTestBy (IsHeadedAnswerIn format q) q gained old new r
