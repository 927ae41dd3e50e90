use Rattle.tn_listing.proofs.OutputLengths.{output_has_the_listings}
use Rattle.tn_listing.proofs.laws.an_output_has_the_listings.Goals as goal

pub returns : goal.returns
returns c = output_has_the_listings
