use Rattle.def_machine.proofs.FoldedHeads.{folded_heads_match_alike}
use Rattle.def_machine.proofs.folded_heads_match_alike.Goals as goal

pub returns : goal.returns
returns c = folded_heads_match_alike
