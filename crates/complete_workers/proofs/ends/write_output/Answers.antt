use Rattle.complete_workers.proofs.SameEnds.{same_write_failed, same_written}
use Rattle.complete_workers.proofs.ends.write_output.Goals as goal

pub returns-clause-reported : goal.returns-clause-reported
returns-clause-reported g c =
    let one = c.write_output-first.ensures in
    let two = c.write_output-second.ensures in
    same_written _ _ _ _ _ _ c.write_output-first.result c.write_output-second.result c.requires.reported c.requires.outputs one.all one.front two.all two.front

pub returns-clause-failed : goal.returns-clause-failed
returns-clause-failed g c =
    let one = c.write_output-first.ensures in
    let two = c.write_output-second.ensures in
    same_write_failed _ _ _ _ c.write_output-first.result c.write_output-second.result c.requires.failed one.unfailed one.write two.unfailed two.write
