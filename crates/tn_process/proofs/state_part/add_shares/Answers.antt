use Rattle.std.proofs.Common.{ap, ◌∙◌, map, ◌++◌, arith}
use Rattle.std.proofs.lemmas.List.{take_all}
use Rattle.tn_process.proofs.Additions.{added_more}
use Rattle.tn_process.proofs.state_part.add_shares.Goals as goal

pub loop-part-preserved : goal.loop-part-preserved
loop-part-preserved g c =
    let s = c.loop-part in
    added_more g.P.StatePart.seen c.args.parts.now s.part-index c.part-item.result (map g.P.StatePart.seen c.args.copies.now.items) s.copies.items c.push.new.self.items c.in_ok-share.field-0
    (omega arith) c.part-item.is c.in_ok-push.ensures.items c.in_ok-share.ensures s.invariant

pub returns : goal.returns
returns g c =
    let s = c.loop-part in
    s.invariant ∙ ap (λ xs. map g.P.StatePart.seen c.args.copies.now.items ++ map g.P.StatePart.seen xs) (take_all s.part-index c.args.parts.now (omega arith))
