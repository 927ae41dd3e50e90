use Rattle.std.proofs.Common.{◌++◌, codes, decimal, sym, ap, ◌∙◌, arith}
use Rattle.tn_fun_text.proofs.LastWrites.{on_extended, three_wrote}
use Rattle.tn_fun_text.proofs.NumberedAtoms.{numbered_text}
use Rattle.tn_fun_text.proofs.reason_text.put_numbered.Goals as goal

pub returns : goal.returns
returns g c =
    let o = c.args.out.now.items in
    on_extended c.extend_from_slice-2.result c.write_decimal.new.out.items c.extend_from_slice-2.new.self.items (codes "'") _ c.extend_from_slice-2.ensures.items
    (three_wrote o (codes "'$") (decimal c.args.number) (codes "'") c.extend_from_slice.new.self.items c.write_decimal.new.out.items c.in_ok-extend_from_slice.ensures.items c.in_ok-write_decimal.ensures.ok
    ∙ ap (λ u. o ++ u) (sym (numbered_text c.args.number (omega arith))))
