use Rattle.def_message_choice.proofs.MessageMoves.{move_of_message_is_computed, no_move_where_no_message, no_account_where_no_message}
use Rattle.def_message_choice.proofs.a_message_has_its_move.Goals as goal

pub returns : goal.returns
returns c = record { computed = move_of_message_is_computed; none = no_move_where_no_message; account = no_account_where_no_message }
