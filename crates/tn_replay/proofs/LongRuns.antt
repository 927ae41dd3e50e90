-- Runs with notes whose listings alone have more bytes than the output may have.
use Rattle.std.proofs.Common.{◌≡◌, ℕ, ◌<◌, List, Bool, true, false, Option, Some, None, Result, Ok, Err, IfOk, refl, arith}
use Rattle.std.specs.Option.{option_map}
use Rattle.std.specs.declared.vec.Vec.{Vec}
use Rattle.def_script.specs.Program.{Program}
use Rattle.def_run.specs.Listing.{program_output}
use Rattle.def_running_node.specs.NodeNotes as definition
use Rattle.def_explain.specs.Remarks as remarks
use Rattle.tn_trace.specs.Transcripts.{listing_bytes}
use Rattle.tn_trace.specs.declared.transcript_fault.TranscriptFault.{TranscriptFault}
use Rattle.tn_listing.proofs.OutputLengths.{output_has_the_listings}
use Rattle.tn_moves.specs.Schedules.{schedule_seen, ArePicks}
use Rattle.tn_run.specs.Jobs.{GivesMore}
use Rattle.tn_replay.specs.Notes.{note_seen, AreNotes, AreNotesWanted, IsListedBy, IsReplayed, replay_by}
use Rattle.tn_replay.specs.declared.note.NodeNote.{NodeNote}
use Rattle.tn_replay.specs.declared.note.RunNotes.{RunNotes}
use Rattle.tn_replay.specs.declared.replay.Replay.{Replay}
use Rattle.tn_replay.specs.declared.replay.ReplayOutcome.{ReplayOutcome}
use Rattle.tn_replay.specs.declared.replay.ReplayOutcome.TheVariants.{Listed, Refused}

abbrev pub code_note : definition.NodeNote → NodeNote
code_note n = record { differing = n.differing; moves = n.moves }

pub note_is : (o : Option definition.NodeNote) → option_map note_seen (option_map code_note o) ≡ o
note_is None = refl
note_is (Some n) = refl

-- the notes of the program's run by these picks
abbrev pub notes_by : Program → List ℕ → RunNotes
notes_by p picks = record { node = option_map code_note (definition.node_note p picks); has_remarks = remarks.has_remarks p picks }

pub notes_are : (p : Program) (picks : List ℕ) → AreNotes p picks (notes_by p picks)
notes_are p picks = record { node = note_is (definition.node_note p picks); remarks = refl }

-- the notes where they are wanted
wanted_notes : (has_notes : Bool) (p : Program) (picks : List ℕ) → (notes : Option RunNotes) × AreNotesWanted has_notes p picks notes
wanted_notes true p picks = (Some (notes_by p picks), notes_are p picks)
wanted_notes false p picks = (None, refl)

-- such a run has notes where they are wanted
pub longer_replay : (most : ℕ) (q : Replay) (p : Program) (picks : List ℕ) → ArePicks (schedule_seen q.schedule) p picks → most < listing_bytes p picks → GivesMore most (replay_by q) p
longer_replay most q p picks given long =
    let notes = wanted_notes q.has_notes p picks in record {
      outcome = Listed notes.0;
      output = program_output p picks;
      given = record { picks = picks; given = given; listing = refl; wanted = notes.1 };
      exceeds = omega (arith, long, output_has_the_listings p picks);
    }

-- ---- what is listed

listed_outcome : (q : Replay) (p : Program) (picks : List ℕ) (outcome : ReplayOutcome) (output : List ℕ) → ArePicks (schedule_seen q.schedule) p picks → IsListedBy q.has_notes p picks outcome output → IsReplayed q p outcome output
listed_outcome q p picks (Listed notes) output given h = record { picks = picks; given = given; listing = h.0; wanted = h.1 }
listed_outcome q p picks (Refused r) output given h = absurd h

-- by a listing of its picks
pub listed_replay : {A : Type 0} (q : Replay) (p : Program) (picks : List ℕ) (r : Result (ReplayOutcome × Vec ℕ A) TranscriptFault) → ArePicks (schedule_seen q.schedule) p picks → IfOk r (λ x. IsListedBy q.has_notes p picks x.0 x.1.items) → IfOk r (λ x. IsReplayed q p x.0 x.1.items)
listed_replay q p picks (Ok x) given h = listed_outcome q p picks x.0 x.1.items given h
listed_replay q p picks (Err e) given h = h
