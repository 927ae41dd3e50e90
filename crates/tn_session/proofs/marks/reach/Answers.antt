use Rattle.std.proofs.Common.{◌∙◌, ◌<◌, length, ap, arith}
use Rattle.tn_session.specs.Views.{newest_first, marks_seen}
use Rattle.tn_session.proofs.MarkLemmas.{one_more_empty}
use Rattle.tn_session.proofs.marks.reach.Goals as goal

pub loop-marks-preserved : goal.loop-marks-preserved
loop-marks-preserved g c =
    let marks = c.loop-marks.marks in
    let whole = marks.ok.0 in
    let few : length marks.items < 64 = omega (arith, whole, c.len.ensures, c.loop-marks-test.true) in
    ap marks_seen c.in_ok-push.ensures.items ∙ one_more_empty marks.items c.new.result few (ap newest_first c.new.ensures.items) ∙ c.loop-marks.invariant
