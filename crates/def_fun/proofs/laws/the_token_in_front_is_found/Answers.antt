use Rattle.def_fun.proofs.TokenSound.{found_there}
use Rattle.def_fun.proofs.TokenLists.{listed_are}
use Rattle.def_fun.proofs.TokenSeen.{no_token}
use Rattle.def_fun.proofs.laws.the_token_in_front_is_found.Goals as goal

pub returns : goal.returns
returns c = record { found = found_there; «none» = no_token; listed = listed_are }
