use Rattle.complete_live.proofs.SameStarts.{same_fits}
use Rattle.complete_live.proofs.book.fits.Goals as goal

pub returns : goal.returns
returns g c =
    same_fits g.J.JournalName.program g.K.JournalName.program _ _ _ _ _ _ _ _ c.requires.named c.requires.books c.requires.programs c.requires.seats c.fits-first.ensures c.fits-second.ensures
