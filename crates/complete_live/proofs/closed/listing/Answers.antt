use Rattle.complete_live.proofs.SameListings.{same_listings}
use Rattle.complete_live.proofs.closed.listing.Goals as goal

pub returns : goal.returns
returns g c =
    same_listings g.J.JournalName.program g.K.JournalName.program _ _ c.args.session _ _ c.requires.named c.requires.entries c.listing.ensures c.listing-2.ensures
