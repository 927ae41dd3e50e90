-- Runs that keep text, and the bytes of their listings.
use Rattle.std.specs.Prelude.{◌≡◌, ◌<◌, ℕ, List}
use Rattle.def_script.specs.Program.{Program}
use Rattle.tn_trace.specs.Items.{AreTexts}
use Rattle.tn_trace.specs.Recorders.{HasRecorded}
use Rattle.tn_trace.specs.Runs.{IsRun}
use Rattle.tn_trace.specs.Transcripts.{TranscriptValue, bytes_in_all, slot_lines, transcript_of}
use Rattle.tn_trace.specs.declared.bound.MostBytes.{MostBytes}
use Rattle.tn_trace.specs.declared.recorder.Recorder.{Recorder}
use Rattle.tn_trace.specs.declared.run.Run.{Run}
use Rattle.tn_trace.specs.declared.sinks.Lines.{Lines}

-- the lines of all sessions together have more bytes than they may have
abbrev pub HasMoreBytes : {A : Type 0} → MostBytes → Recorder A (Lines A) → Type 0
HasMoreBytes bound recorder = bound.bytes < bytes_in_all (slot_lines recorder.slots.items)

-- whatever picks the run is of, the transcript is that of these
abbrev pub IsOfItsRun : {A : Type 0} → Run A (Recorder A (Lines A)) → TranscriptValue → Type 0
IsOfItsRun r transcript = (p : Program) (limit : ℕ) (picks : List ℕ) → IsRun (HasRecorded AreTexts) p limit picks r → transcript ≡ transcript_of p picks
