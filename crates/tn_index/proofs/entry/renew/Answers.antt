use Rattle.std.proofs.Common.{◌≡◌, ◌<◌, ◌∙◌, length, get_or, ap, true, false, sym, arith}
use Rattle.tn_index.proofs.Renewals.{one_more_renewed}
use Rattle.tn_index.proofs.entry.renew.Goals as goal
use Rattle.tn_index.proofs.entry.renew.Goals.{then-has_among, else-has_among}

pub loop-entry-preserved : goal.loop-entry-preserved
loop-entry-preserved g c =
    let l = c.loop-entry in
    let xs = c.deref_mut-entry-items.result.now in
    let below : l.entry-index < length xs = omega (arith, c.loop-entry-test.true) in
    let x = get_or l.entry-items l.entry-index c.entry-item.result in
    let at : x ≡ get_or l.entry-items l.entry-index x = ap (get_or l.entry-items l.entry-index) c.entry-item.is in
    elim c.if-has_among.branch [
      | then-has_among w ↦ one_more_renewed c.args.function_setting.now c.args.place xs l.entry-items _ l.entry-index x true below l.invariant at (sym w.if-has_among.true ∙ c.has_among.ensures) w.entry-items-is
      | else-has_among w ↦ one_more_renewed c.args.function_setting.now c.args.place xs l.entry-items _ l.entry-index x false below l.invariant at (sym w.if-has_among.false ∙ c.has_among.ensures) w.entry-items-is
    ]
