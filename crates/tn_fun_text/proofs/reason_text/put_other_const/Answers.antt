use Rattle.std.proofs.Common.{codes}
use Rattle.def_term.specs.Text.{w}
use Rattle.tn_term.specs.Views.{tree_of}
use Rattle.tn_fun_text.proofs.LastWrites.{on_extended, three_wrote}
use Rattle.tn_fun_text.proofs.reason_text.put_other_const.Goals as goal

pub returns : goal.returns
returns g c =
    on_extended c.extend_from_slice-2.result c.write_term.new.out.items c.extend_from_slice-2.new.self.items (codes " is another") _ c.extend_from_slice-2.ensures.items
    (three_wrote c.args.out.now.items (codes "a fun has {const,T} of atoms that begin with $ alone, and ") (w (tree_of c.args.term.now)) (codes " is another") c.extend_from_slice.new.self.items c.write_term.new.out.items c.in_ok-extend_from_slice.ensures.items c.in_ok-write_term.ensures.ok)
