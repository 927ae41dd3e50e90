use Rattle.std.proofs.Common.{◌∙◌, ◌<◌, ◌++◌, length, ap, arith}
use Rattle.tn_text.proofs.Growth.{grows_on}
use Rattle.tn_running_node.specs.Lines.{named_text}
use Rattle.tn_running_node.proofs.LineLoops.{one_more_line}
use Rattle.tn_running_node.proofs.lines.put_from.Goals as goal

pub loop-place-preserved : goal.loop-place-preserved
loop-place-preserved g c =
    let v_len = c.args.lines.now.ok.0 in
    let last = c.len-place-end.ensures in
    let below : c.loop-place.place < length c.args.lines.now.items = omega (arith, v_len, last) in
    record {
      written =
          one_more_line (λ l. l.items) (named_text c.args.name.now c.args.mark.now) c.args.lines.now.items c.loop-place.place c.index.result.now c.loop-place.out.items c.put_line.new.out.items _ below c.index.ensures
          (c.in_ok-put_line.ensures.ok ∙ ap (λ l. c.loop-place.out.items ++ named_text c.args.name.now c.args.mark.now l) c.deref.ensures.value) c.loop-place.invariant.written;
      grows = grows_on c.loop-place.invariant.grows c.put_line.ensures.grows;
    }
