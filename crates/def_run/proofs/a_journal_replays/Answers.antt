use Rattle.def_run.proofs.Replay.{events_again, journal_again, moves_bounded}
use Rattle.def_run.proofs.Runs.{journal_output, runs_grow}
use Rattle.def_run.proofs.a_journal_replays.Goals as goal

pub returns : goal.returns
returns c = record { shown = events_again; moved = journal_again; output = journal_output; bounded = moves_bounded; grows = runs_grow }
