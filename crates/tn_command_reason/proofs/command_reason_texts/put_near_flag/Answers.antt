use Rattle.std.proofs.Common.{codes}
use Rattle.tn_text.proofs.Growth.{grows_on}
use Rattle.tn_verdict.proofs.Pieces.{grown_by, grown_or_not}
use Rattle.tn_command_reason.proofs.command_reason_texts.put_near_flag.Goals as goal

pub returns-clause-grows : goal.returns-clause-grows
returns-clause-grows g c =
    let o = c.args.out.now.items in
    let first = c.extend_from_slice.new.self.items in
    let next = c.extend_from_slice-2.new.self.items in
    let last = c.extend_from_slice-3.new.self.items in
    grows_on (grown_by o (codes "; is ") first c.in_ok-extend_from_slice.ensures.items)
    (grows_on (grown_by first c.in-Some.flag.now next c.in_ok-extend_from_slice-2.ensures.items)
    (grown_or_not c.extend_from_slice-3.result next (codes " meant?") last c.extend_from_slice-3.ensures.items))
