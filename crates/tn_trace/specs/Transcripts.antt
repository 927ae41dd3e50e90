-- What a transcript stands for.
use Rattle.std.specs.Prelude.{ℕ, List, [], length, map, slice_set, sum}
use Rattle.def_script.specs.Program.{Program}
use Rattle.def_script.specs.Script.{creations}
use Rattle.def_run.specs.Run.{moves}
use Rattle.def_run.specs.Listing.{messages, replies, lines_of}
use Rattle.tn_trace.specs.declared.slot.Slot.{Slot}
use Rattle.tn_trace.specs.declared.sinks.Lines.{Lines}

-- the lines of each session, in the order of the control list, those of the replies, and the picks that moved
pub record TranscriptValue : Type 0 where
  pub listings : List (List ℕ)
  pub replied : List ℕ
  pub journal : List ℕ

-- that of the program's run by these picks
abbrev pub transcript_of : Program → List ℕ → TranscriptValue
transcript_of p picks = record {
  listings = map (λ s. lines_of (messages s.0 p picks)) (creations p.commands);
  replied = lines_of (replies p picks);
  journal = moves p picks;
}

-- how many bytes the lines of all sessions have together
abbrev pub bytes_in_all : List (List ℕ) → ℕ
bytes_in_all listings = sum (map length listings)

-- those of the program's run by these picks
abbrev pub listing_bytes : Program → List ℕ → ℕ
listing_bytes p picks = bytes_in_all (transcript_of p picks).listings

-- the same without the lines of the session at this place
abbrev pub without_lines : TranscriptValue → ℕ → TranscriptValue
without_lines t place = record t { listings = slice_set t.listings place [] }

-- the lines that the sessions have
abbrev pub slot_lines : {A : Type 0} → List (Slot A (Lines A)) → List (List ℕ)
slot_lines slots = map (λ s. s.kept.text.items) slots
