use Rattle.def_message_choice.proofs.PlainMessages.{plain_message_has_no_effects, plain_message_is_sent, absent_sends_none, destroyed_sends_none}
use Rattle.def_message_choice.proofs.a_plain_message_is_sent_by_a_flag.Goals as goal

pub returns : goal.returns
returns c = record { no_effects = plain_message_has_no_effects; sent = plain_message_is_sent; absent = absent_sends_none; destroyed = destroyed_sends_none }
