use Rattle.std.proofs.Common.{arith}
use Rattle.tn_remark.proofs.NextLine.{next_line}
use Rattle.tn_remark.proofs.remark_lines.put_lines.Goals as goal

pub loop-place-preserved : goal.loop-place-preserved
loop-place-preserved g c =
    next_line c.args.name.now c.args.text.now c.args.starts.now _ c.loop-place.out.items c.put_line_of.new.out.items c.start_at-start.result c.loop-place.place c.args.texts.now.items c.index.result.now (omega (arith, c.len-place-end.ensures, c.loop-place-test.true)) c.index.ensures c.start_at-start.ensures
    c.in_ok-put_line_of.ensures c.loop-place.invariant
