use Rattle.def_message_choice.proofs.Listings.{listing_has_the_chosen}
use Rattle.def_message_choice.proofs.a_listing_has_the_chosen.Goals as goal

pub returns : goal.returns
returns c = listing_has_the_chosen
