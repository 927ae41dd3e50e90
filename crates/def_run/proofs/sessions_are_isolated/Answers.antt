use Rattle.def_run.proofs.StruckCommands.{struck_view}
use Rattle.def_run.proofs.Runs.{by_the_view, isolated}
use Rattle.def_run.proofs.sessions_are_isolated.Goals as goal

pub returns : goal.returns
returns c = record { view = by_the_view; struck = struck_view; isolated = isolated }
