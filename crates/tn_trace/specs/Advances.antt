-- One more pick of a run that keeps terms.
use Rattle.std.specs.Prelude.{◌≡◌, ℕ, ◌<◌, List, [], ◌∷◌, ◌++◌, length, map, Result, Ok, Err}
use Rattle.def_script.specs.Program.{Program}
use Rattle.def_run.specs.Run.{JOURNAL}
use Rattle.def_run.specs.Listing.{answer}
use Rattle.def_run.specs.Laws.{IsIdleAfter}
use Rattle.tn_program.specs.Views.{program_of}
use Rattle.tn_program.specs.declared.parts.Program as code
use Rattle.tn_trace.specs.Items.{item_seen, AreTerms}
use Rattle.tn_trace.specs.Recorders.{HasRecorded}
use Rattle.tn_trace.specs.Runs.{IsRun}
use Rattle.tn_trace.specs.declared.run.Run.{Run}
use Rattle.tn_trace.specs.declared.recorder.Recorder.{Recorder}
use Rattle.tn_trace.specs.declared.sinks.Terms.{Terms}
use Rattle.tn_trace.specs.declared.item.Answer.{Answer}
use Rattle.tn_trace.specs.declared.item.Answer.TheVariants.{Moved, Idle}
use Rattle.tn_trace.specs.declared.item.StepFault.{StepFault}
use Rattle.tn_trace.specs.declared.item.StepFault.TheVariants.{LimitReached, Spent, OutOfMemory}

-- the run keeps terms, and as many picks may move as a journal has entries
abbrev pub IsTermRun : {A : Type 0} → Program → List ℕ → Run A (Recorder A (Terms A)) → Type 0
IsTermRun p picks r = IsRun (HasRecorded AreTerms) p JOURNAL picks r

-- what the pick came to, and the run afterwards
abbrev pub IsAdvanceOf : {A : Type 0} → Program → List ℕ → ℕ → Run A (Recorder A (Terms A)) → Run A (Recorder A (Terms A)) → Result (Answer A) StepFault → Type 0
IsAdvanceOf p picks pick old new (Ok (Moved items)) = (length picks < JOURNAL) × IsTermRun p (picks ++ pick ∷ []) new × (map item_seen items.items ≡ answer p (picks ++ pick ∷ []) (length picks))
IsAdvanceOf p picks pick old new (Ok Idle) = (length picks < JOURNAL) × IsTermRun p picks new × IsIdleAfter p picks pick
IsAdvanceOf p picks pick old new (Err LimitReached) = (length picks ≡ JOURNAL) × (new ≡ old)
IsAdvanceOf p picks pick old new (Err Spent) = ⊥
IsAdvanceOf p picks pick old new (Err OutOfMemory) = length picks < JOURNAL

-- whatever picks led to the run, one more is taken
abbrev pub Advances : {A : Type 0} → code.Program A → ℕ → Run A (Recorder A (Terms A)) → Run A (Recorder A (Terms A)) → Result (Answer A) StepFault → Type 0
Advances program pick old new result = (picks : List ℕ) → IsTermRun (program_of program) picks old → IsAdvanceOf (program_of program) picks pick old new result
