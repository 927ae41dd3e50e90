use Rattle.complete_live.proofs.SameTurns.{same_turns}
use Rattle.complete_live.proofs.book.step.Goals as goal

pub returns : goal.returns
returns g c =
    same_turns g.J.JournalName.program g.K.JournalName.program _ _ _ _ c.args.pick _ _ _ _ _ _ c.requires.named c.requires.books c.requires.seats
    c.step-first.ensures.seat c.step-first.ensures.book c.step-second.ensures.seat c.step-second.ensures.book
