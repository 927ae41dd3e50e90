use Rattle.complete_live.proofs.SameTurns.{same_takes}
use Rattle.complete_live.proofs.live.step.Goals as goal

pub returns : goal.returns
returns g c =
    same_takes g.J.JournalName.program g.K.JournalName.program _ _ c.args.pick _ _ _ _ c.requires.named c.requires.seats
    c.step-first.ensures.seat c.step-first.ensures.counts c.step-second.ensures.seat c.step-second.ensures.counts
