-- The note of a run: none where no command can lead to one, and the same by the picks that moved. A run with its note is a run.
use Rattle.std.proofs.Common.{◌≡◌, true, false, if◌then◌else◌, List, ℕ, None, sym, ap}
use Rattle.def_script.specs.Program.{Program}
use Rattle.def_run.specs.Run.{moves}
use Rattle.def_running_node.specs.NodeNotes.{moves_that_differ, note_of, node_note}
use Rattle.def_explain.specs.NodeCommands.{can_differ}
use Rattle.tn_running_node.proofs.NodePicks.{moves_that_differ_again}
use Rattle.tn_run.specs.declared.outcome.RunRefusal.TheVariants.{Text, Moves}
use Rattle.tn_replay.specs.Notes.{ReplayIsRun}
use Rattle.tn_replay.specs.declared.replay.ReplayOutcome.TheVariants.{Listed, Refused}

pub no_note : (p : Program) (picks : List ℕ) → can_differ p ≡ false → None ≡ node_note p picks
no_note p picks h = sym (ap (λ b. if b then note_of (moves_that_differ p picks) else None) h)

pub some_note : (p : Program) (picks : List ℕ) → can_differ p ≡ true → note_of (moves_that_differ p picks) ≡ node_note p picks
some_note p picks h = sym (ap (λ b. if b then note_of (moves_that_differ p picks) else None) h)

pub note_again : (p : Program) (picks : List ℕ) → node_note p (moves p picks) ≡ node_note p picks
note_again p picks = ap (λ bs. if can_differ p then note_of bs else None) (moves_that_differ_again p picks)

pub replay_is_run : ReplayIsRun
replay_is_run q bytes (Listed n) output h = record { program = h.program; accepted = h.accepted; output = record { picks = h.output.picks; given = h.output.given; listing = h.output.listing } }
replay_is_run q bytes (Refused (Text r)) output h = h
replay_is_run q bytes (Refused (Moves r)) output h = h
