use Rattle.def_alignment.proofs.CommonLines.{common_are_longest}
use Rattle.def_alignment.proofs.laws.common_lines_are_longest.Goals as goal

pub returns : goal.returns
returns c = common_are_longest
