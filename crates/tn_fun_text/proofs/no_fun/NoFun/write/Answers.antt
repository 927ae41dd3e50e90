use Rattle.std.proofs.Common.{codes, decimal}
use Rattle.def_fun.specs.FunTexts.{no_fun_text, clause_part_text}
use Rattle.tn_fun_text.specs.Reasons.{no_fun_reason_seen, clause_part_seen}
use Rattle.tn_fun_text.proofs.LastWrites.{on_last, line_wrote}
use Rattle.tn_fun_text.proofs.no_fun.NoFun.write.Goals as goal

pub returns : goal.returns
returns g c =
    let n = c.args.self.now in
    let reason = no_fun_text (no_fun_reason_seen n.reason) in
    on_last c.put_reason.result c.extend_from_slice-2.new.self.items c.put_reason.new.out.items reason _ c.put_reason.ensures
    (line_wrote c.args.out.now.items (codes "no fun: clause ") (decimal n.clause) (codes ": ") (clause_part_text (clause_part_seen n.part)) (codes ": ") reason
    c.put_with_number.new.out.items c.extend_from_slice.new.self.items c.put_part.new.out.items c.extend_from_slice-2.new.self.items
    c.in_ok-put_with_number.ensures c.in_ok-extend_from_slice.ensures.items c.in_ok-put_part.ensures c.in_ok-extend_from_slice-2.ensures.items)
