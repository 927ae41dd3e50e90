use Rattle.std.proofs.Common.{◌≡◌, ◌-◌, ◌+◌, length, arith}
use Rattle.tn_term.specs.Views.{tree_of}
use Rattle.tn_running_node.specs.Views.{lines_seen, node_mark_seen}
use Rattle.tn_running_node.proofs.Exceptions.{one_more_frame, no_frame_left}
use Rattle.tn_running_node.proofs.messages.push_exceptions.Goals as goal

pub loop-above-preserved : goal.loop-above-preserved
loop-above-preserved g c =
    let ms = c.args.marks.now in
    let above = c.loop-above.above in
    let below = c.loop-above-test.true in
    one_more_frame node_mark_seen ms (length ms - 1 - above) (length ms - above) (length ms - (above + 1)) c.index-marks-marks.result c.args.pid (tree_of c.args.reason.now) (lines_seen c.loop-above.lines) (lines_seen c.push_exception.new.lines) _
    (omega (arith, below)) (omega (arith, below)) (omega (arith, below)) c.index-marks-marks.is c.in_ok-push_exception.ensures c.loop-above.invariant

pub returns : goal.returns
returns g c =
    let ms = c.args.marks.now in
    let none : length ms - c.loop-above.above ≡ 0 = omega (arith, c.loop-above-test.false) in
    no_frame_left node_mark_seen ms (length ms - c.loop-above.above) c.args.pid (tree_of c.args.reason.now) (lines_seen c.loop-above.lines) _ none c.loop-above.invariant
