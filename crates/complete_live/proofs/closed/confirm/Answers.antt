use Rattle.complete_live.proofs.SameListings.{same_confirms}
use Rattle.complete_live.proofs.closed.confirm.Goals as goal

pub returns : goal.returns
returns g c =
    same_confirms g.J.JournalName.program g.K.JournalName.program _ _ _ _ _ _ c.requires.named c.requires.entries c.requires.receipts c.confirm.ensures c.confirm-2.ensures
