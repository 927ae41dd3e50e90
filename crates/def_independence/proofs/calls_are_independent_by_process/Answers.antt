use Rattle.def_independence.proofs.Calls.{calls_independent}
use Rattle.def_independence.proofs.calls_are_independent_by_process.Goals as goal

pub returns : goal.returns
returns c = calls_independent
