use Rattle.complete_live.proofs.SameListings.{same_replies}
use Rattle.complete_live.proofs.closed.replies.Goals as goal

pub returns : goal.returns
returns g c =
    same_replies g.J.JournalName.program g.K.JournalName.program _ _ _ _ c.requires.named c.requires.entries c.replies.ensures c.replies-2.ensures
