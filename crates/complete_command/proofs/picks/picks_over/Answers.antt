use Rattle.complete_workers.proofs.SameEnds.{same_read_failed}
use Rattle.complete_command.proofs.SamePicks.{same_picks_left, same_picks_text}
use Rattle.complete_command.proofs.picks.picks_over.Goals as goal

pub returns-clause-text : goal.returns-clause-text
returns-clause-text g c = same_picks_text _ _ _ _ c.picks_over-first.result c.picks_over-second.result c.requires.reported c.picks_over-first.ensures.text c.picks_over-second.ensures.text

pub returns-clause-left : goal.returns-clause-left
returns-clause-left g c = same_picks_left _ _ _ _ c.picks_over-first.result c.picks_over-second.result c.requires.reported c.picks_over-first.ensures.text c.picks_over-second.ensures.text

pub returns-clause-failed : goal.returns-clause-failed
returns-clause-failed g c =
    let one = c.picks_over-first.ensures in
    let two = c.picks_over-second.ensures in
    same_read_failed _ _ _ _ c.picks_over-first.result c.picks_over-second.result c.requires.failed one.unfailed one.read one.memory one.faults two.unfailed two.read two.memory two.faults
