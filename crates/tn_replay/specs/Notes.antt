-- What the code's notes stand for, and runs that have them (own).
use Rattle.std.specs.Prelude.{◌≡◌, ℕ, Bool, true, false, List, Option, Some, None}
use Rattle.std.specs.Option.{option_map}
use Rattle.def_script.specs.Program.{Program}
use Rattle.def_script.specs.Script.{Refusal}
use Rattle.def_running_node.specs.NodeNotes as definition
use Rattle.def_running_node.specs.NodeNotes.{node_note}
use Rattle.def_explain.specs.Remarks.{has_remarks}
use Rattle.def_run.specs.Listing.{program_output}
use Rattle.tn_moves.specs.Schedules.{schedule_seen, ArePicks, HasPicks}
use Rattle.tn_run.specs.Answers.{IsRefusedRun, text_refusal, run_by}
use Rattle.tn_run.specs.Jobs.{JobView, Gives, failed_end}
use Rattle.tn_run.specs.declared.refusal_form.RefusalForm.TheVariants.{Line}
use Rattle.tn_run.specs.declared.outcome.Outcome.{Outcome}
use Rattle.tn_run.specs.declared.outcome.Outcome.TheVariants as run
use Rattle.tn_run.specs.declared.fault.RunFault.{RunFault}
use Rattle.tn_replay.specs.declared.note.NodeNote.{NodeNote}
use Rattle.tn_replay.specs.declared.note.RunNotes.{RunNotes}
use Rattle.tn_replay.specs.declared.replay.Replay.{Replay}
use Rattle.tn_replay.specs.declared.replay.ReplayOutcome.{ReplayOutcome}
use Rattle.tn_replay.specs.declared.replay.ReplayOutcome.TheVariants.{Listed, Refused}

abbrev pub note_seen : NodeNote → definition.NodeNote
note_seen n = record { differing = n.differing; moves = n.moves }

-- the notes of the program's run by these picks: what a running node does otherwise, and whether a command is refused, matches no function or has a trap
pub record AreNotes (p : Program) (picks : List ℕ) (notes : RunNotes) : Type 0 where
  pub node : option_map note_seen notes.node ≡ node_note p picks
  pub remarks : notes.has_remarks ≡ has_remarks p picks

-- the notes of the program's run by these picks, where they are wanted, else none
abbrev pub AreNotesWanted : Bool → Program → List ℕ → Option RunNotes → Type 0
AreNotesWanted true p picks None = ⊥
AreNotesWanted true p picks (Some notes) = AreNotes p picks notes
AreNotesWanted false p picks notes = notes ≡ None

-- the output and the notes are those of the program's run by these picks
abbrev pub IsListedBy : Bool → Program → List ℕ → ReplayOutcome → List ℕ → Type 0
IsListedBy has_notes p picks (Listed notes) output = (output ≡ program_output p picks) × AreNotesWanted has_notes p picks notes
IsListedBy has_notes p picks (Refused r) output = ⊥

-- the output and the notes are those of the program's run by the picks that are asked
pub record IsListedWithNotes (q : Replay) (p : Program) (notes : Option RunNotes) (output : List ℕ) : Type 0 where
  pub picks : List ℕ
  pub given : ArePicks (schedule_seen q.schedule) p picks
  pub listing : output ≡ program_output p picks
  pub wanted : AreNotesWanted q.has_notes p picks notes

-- what is written by each outcome: nothing where the moves are refused
abbrev pub IsReplayed : Replay → Program → ReplayOutcome → List ℕ → Type 0
IsReplayed q p (Listed notes) output = IsListedWithNotes q p notes output
IsReplayed q p (Refused r) output = IsRefusedRun (schedule_seen q.schedule) p r output

-- the refusal of a text that an outcome is
abbrev pub replay_refusal : ReplayOutcome → Option Refusal
replay_refusal (Listed notes) = None
replay_refusal (Refused r) = text_refusal r

-- the outcome is the listing of an accepted script
abbrev pub is_listing : ReplayOutcome → Bool
is_listing (Listed notes) = true
is_listing (Refused r) = false

-- a run by a schedule, with its notes or without
abbrev pub replay_by : Replay → JobView ReplayOutcome RunFault
replay_by q = record {
  of_program = IsReplayed q;
  refusal_in = replay_refusal;
  refusal_form = Line;
  succeeds = is_listing;
  has = λ outcome. Unit {0};
  reads = HasPicks (schedule_seen q.schedule);
  end_of = failed_end;
}

-- what it is without its notes
abbrev pub run_outcome : ReplayOutcome → Outcome
run_outcome (Listed notes) = run.Listed
run_outcome (Refused r) = run.Refused r

-- what it gives is what the run by its schedule gives
abbrev pub ReplayIsRun : Type 0
ReplayIsRun =
    (q : Replay) (bytes : List ℕ) (outcome : ReplayOutcome) (output : List ℕ) → Gives (replay_by q) bytes outcome output → Gives (run_by q.schedule) bytes (run_outcome outcome) output
