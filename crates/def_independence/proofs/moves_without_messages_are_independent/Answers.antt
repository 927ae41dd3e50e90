use Rattle.def_independence.proofs.Calls.{unseen_independent}
use Rattle.def_independence.proofs.moves_without_messages_are_independent.Goals as goal

pub returns : goal.returns
returns c = unseen_independent
