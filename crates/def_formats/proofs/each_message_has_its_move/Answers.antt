use Rattle.def_formats.proofs.MessageMoves as lemmas
use Rattle.def_formats.proofs.MovedRows.{journal_is_read}
use Rattle.def_formats.proofs.each_message_has_its_move.Goals as goal

pub returns : goal.returns
returns c = record { moves = lemmas.each_message_has_its_move; journal = journal_is_read }
