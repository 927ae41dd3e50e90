use Rattle.def_turns.proofs.Rule.{push_alone, steal_alone}
use Rattle.def_turns.proofs.no_other_view_changes.Goals as goal

pub returns : goal.returns
returns c = record { push = push_alone; steal = steal_alone }
