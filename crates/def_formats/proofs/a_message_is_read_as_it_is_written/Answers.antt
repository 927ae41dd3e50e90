use Rattle.def_formats.proofs.MessageTexts.{message_is_read, kinds_have_no_comma}
use Rattle.def_formats.proofs.a_message_is_read_as_it_is_written.Goals as goal

pub returns : goal.returns
returns c = record { message = message_is_read; kinds = kinds_have_no_comma }
