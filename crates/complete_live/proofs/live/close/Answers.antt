use Rattle.complete_live.proofs.SameCloses.{same_closes}
use Rattle.complete_live.proofs.live.close.Goals as goal

pub returns : goal.returns
returns g c = same_closes _ _ _ _ _ _ c.requires.locks c.requires.seats c.close-first.ensures c.close-second.ensures
