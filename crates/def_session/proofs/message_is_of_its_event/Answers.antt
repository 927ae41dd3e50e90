use Rattle.def_session.proofs.Messages.{message_of_event, short_call, plain_call}
use Rattle.def_session.proofs.message_is_of_its_event.Goals as goal

pub returns : goal.returns
returns c = record { message = message_of_event; short = short_call; plain = plain_call }
