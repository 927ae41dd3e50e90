use Rattle.complete_workers.proofs.SameEnds.{same_left, same_read_failed, same_text}
use Rattle.complete_workers.proofs.ends.read_text.Goals as goal

pub returns-clause-text : goal.returns-clause-text
returns-clause-text g c = same_text _ _ _ _ c.read_text-first.result c.read_text-second.result c.requires.reported c.read_text-first.ensures.text c.read_text-second.ensures.text

pub returns-clause-left : goal.returns-clause-left
returns-clause-left g c = same_left _ _ _ _ c.read_text-first.result c.read_text-second.result c.requires.reported c.read_text-first.ensures.text c.read_text-second.ensures.text

pub returns-clause-failed : goal.returns-clause-failed
returns-clause-failed g c =
    let one = c.read_text-first.ensures in
    let two = c.read_text-second.ensures in
    same_read_failed _ _ _ _ c.read_text-first.result c.read_text-second.result c.requires.failed one.unfailed one.read one.memory one.faults two.unfailed two.read two.memory two.faults
