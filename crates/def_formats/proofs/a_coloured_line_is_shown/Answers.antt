use Rattle.def_formats.proofs.ShownLines.{coloured_line_is_shown}
use Rattle.def_formats.proofs.a_coloured_line_is_shown.Goals as goal

pub returns : goal.returns
returns c = coloured_line_is_shown
