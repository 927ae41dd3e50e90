-- What a trial of a fun writes (own).
-- Depends on the answer in the fun's words, and on the formats of a command.
use Rattle.std.specs.Prelude.{◌≡◌, ℕ, List, ◌++◌, Bool, if◌then◌else◌, Option}
use Rattle.tn_formats.specs.declared.format.Format.{Format}
use Rattle.tn_verdict.specs.declared.spec_test_input.SpecTestInput.{SpecTestInput}
use Rattle.tn_command.specs.JobForms.{text_in_format}
use Rattle.tn_command.specs.SpecTests.{list_head}
use Rattle.tn_fun_words.specs.FunAnswers.{IsFunAnswerTo}

-- an answer in a format, where one is given, after a line for its list, where there are several
abbrev pub fun_test_output : Bool → Option Format → List ℕ → List ℕ → List ℕ
fun_test_output several format list answer = text_in_format format (if several then list_head list ++ answer else answer)

-- of an answer in the words of a fun
abbrev pub IsFunOutput : Bool → Option Format → SpecTestInput → List ℕ → List ℕ → Type 0
IsFunOutput several format q fun text = (answer : List ℕ) × IsFunAnswerTo q fun answer × (text ≡ fun_test_output several format q.list.now answer)
