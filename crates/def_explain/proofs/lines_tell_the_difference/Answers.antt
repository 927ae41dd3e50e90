use Rattle.def_explain.proofs.DifferenceLines.{lines_tell_the_difference}
use Rattle.def_explain.proofs.lines_tell_the_difference.Goals as goal

pub returns : goal.returns
returns c = lines_tell_the_difference
