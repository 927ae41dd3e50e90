-- When two tests of one specification are the same.
use Rattle.std.specs.Prelude.{◌≡◌, Result, Ok, Err, IfErr}
use Rattle.std.specs.Process.{exit_status}
use Rattle.tn_text.specs.Watch.{is_flushed}
use Rattle.tn_text.specs.declared.watched.Watched.{Watched}
use Rattle.tn_command.specs.declared.status.JobEnd.{JobEnd}
use Rattle.tn_command.specs.declared.spec_test.SpecTestRunFault.{SpecTestRunFault}
use Rattle.tn_command.specs.declared.spec_test.SpecTestRunFault.TheVariants.{SpecTestInput, Run}
use Rattle.complete_code.specs.SpecTestAnswers.{IsSpecTestRefused}
use Rattle.complete_workers.specs.Ends.{EndAlike}

-- an answer, also one that couldn't be written, and a fault of the question are not of one question, and two such
-- faults are one, unless memory was refused
abbrev pub AreTestedAlike : {A : Type 0} → Result (Unit {0}) (SpecTestRunFault A) → Result (Unit {0}) (SpecTestRunFault A) → Type 0
AreTestedAlike (Err (SpecTestInput e)) (Err (SpecTestInput f)) = ¬ IsSpecTestRefused e → ¬ IsSpecTestRefused f → e ≡ f
AreTestedAlike (Err (SpecTestInput e)) (Err (Run f)) = IsSpecTestRefused e
AreTestedAlike (Err (SpecTestInput e)) (Ok u) = IsSpecTestRefused e
AreTestedAlike (Err (Run e)) (Err (SpecTestInput f)) = IsSpecTestRefused f
AreTestedAlike (Err (Run e)) (Err (Run f)) = Unit {0}
AreTestedAlike (Err (Run e)) (Ok u) = Unit {0}
AreTestedAlike (Ok u) (Err (SpecTestInput f)) = IsSpecTestRefused f
AreTestedAlike (Ok u) (Err (Run f)) = Unit {0}
AreTestedAlike (Ok u) (Ok v) = Unit {0}

-- the fault is the question's
abbrev pub IsOfInput : {A : Type 0} → SpecTestRunFault A → Type 0
IsOfInput (SpecTestInput f) = Unit {0}
IsOfInput (Run f) = ⊥

-- where both answers end alike, the statuses are one
abbrev pub SpecTestsHaveOneStatus : {A : Type 0} → JobEnd (Unit {0}) (SpecTestRunFault A) → JobEnd (Unit {0}) (SpecTestRunFault A) → Type 0
SpecTestsHaveOneStatus a b = EndAlike a.answer b.answer → exit_status a.status ≡ exit_status b.status

-- where both answers end alike, and no write failed, both writers were flushed or neither
abbrev pub SpecTestsFlushAlike : {A W : Type 0} → (one other : Watched W) → JobEnd (Unit {0}) (SpecTestRunFault A) → JobEnd (Unit {0}) (SpecTestRunFault A) → Type 0
SpecTestsFlushAlike one other a b = EndAlike a.answer b.answer → IfErr a.answer IsOfInput → is_flushed one ≡ is_flushed other
