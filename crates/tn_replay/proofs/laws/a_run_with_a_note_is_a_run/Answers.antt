use Rattle.tn_replay.proofs.NodeNotes.{replay_is_run}
use Rattle.tn_replay.proofs.laws.a_run_with_a_note_is_a_run.Goals as goal

pub returns : goal.returns
returns c = replay_is_run
