use Rattle.def_message_choice.proofs.Accounts.{no_account_where_none_is_chosen}
use Rattle.def_message_choice.proofs.an_account_has_the_chosen.Goals as goal

pub returns : goal.returns
returns c = no_account_where_none_is_chosen
