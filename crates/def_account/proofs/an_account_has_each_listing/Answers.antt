use Rattle.def_account.proofs.Creations.{created_once}
use Rattle.def_account.proofs.an_account_has_each_listing.Goals as goal

pub returns : goal.returns
returns c = record {
  once = created_once;
  listed = λ bytes p picks script k d less. c.an_account_tells_the_listing.ensures p picks _ (created_once bytes p script k d less);
}
