use Rattle.std.proofs.Common.{arith}
use Rattle.tn_refusal.proofs.CutTexts.{cut_off}
use Rattle.tn_refusal.proofs.put.cut_after.Goals as goal

pub returns : goal.returns
returns g c =
    let stored = c.args.out.now.ok.0 in
    cut_off c.extend_from_slice.result c.args.out.now.items c.truncate.new.self.items c.extend_from_slice.new.self.items c.args.start (omega arith) c.truncate.ensures.items c.extend_from_slice.ensures.items
