use Rattle.def_explain.proofs.RunMessages.{account_tells_the_listing}
use Rattle.def_explain.proofs.an_account_tells_the_listing.Goals as goal

pub returns : goal.returns
returns c = account_tells_the_listing
