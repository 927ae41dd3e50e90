use Rattle.std.proofs.Common.{◌∙◌, ◌<◌, length, sym, ap, arith}
use Rattle.std.specs.Prelude.{slice_get}
use Rattle.tn_running_node.specs.Lines.{is_line}
use Rattle.tn_running_node.specs.Views.{lines_seen}
use Rattle.tn_running_node.proofs.CommonLines.{stops_here, goes_on_here}
use Rattle.tn_running_node.proofs.lines.common_count.Goals as goal

pub returns-then-not-is_line_at : goal.returns-then-not-is_line_at
returns-then-not-is_line_at g c =
    let v_len = c.args.here.now.ok.0 in
    let last = c.len-place-end.ensures in
    let below : c.loop-place.place < length c.args.here.now.items = omega (arith, v_len, last, c.loop-place-test.true) in
    stops_here (λ l. l.items) c.args.here.now.items c.loop-place.place c.index.result.now (lines_seen c.args.there.now) _ below c.index.ensures c.loop-place.invariant
    (ap (is_line (slice_get (lines_seen c.args.there.now) c.loop-place.place)) (sym c.deref.ensures.value) ∙ sym c.is_line_at.ensures ∙ c.if-not-is_line_at.true)

pub loop-place-preserved : goal.loop-place-preserved
loop-place-preserved g c =
    let v_len = c.args.here.now.ok.0 in
    let last = c.len-place-end.ensures in
    let below : c.loop-place.place < length c.args.here.now.items = omega (arith, v_len, last, c.loop-place-test.true) in
    goes_on_here (λ l. l.items) c.args.here.now.items c.loop-place.place c.index.result.now (lines_seen c.args.there.now) _ below c.index.ensures c.loop-place.invariant
    (ap (is_line (slice_get (lines_seen c.args.there.now) c.loop-place.place)) (sym c.deref.ensures.value) ∙ sym c.is_line_at.ensures ∙ c.if-not-is_line_at.false)
