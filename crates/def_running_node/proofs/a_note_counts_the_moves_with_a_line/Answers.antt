use Rattle.def_running_node.proofs.NodeNotes.{note_where_some_line, note_counts_moves, no_account_where_no_line}
use Rattle.def_running_node.proofs.a_note_counts_the_moves_with_a_line.Goals as goal

pub returns : goal.returns
returns c = record { exactly = note_where_some_line; counts = note_counts_moves; account = no_account_where_no_line }
