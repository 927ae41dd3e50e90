use Rattle.def_running_node.proofs.LinesBetween.{lines_are_between, no_line_where_same, same_lines_same_node}
use Rattle.def_running_node.proofs.lines_are_between_both.Goals as goal

pub returns : goal.returns
returns c = record { exactly = lines_are_between; none = no_line_where_same; there = same_lines_same_node }
