use Rattle.std.proofs.Common.{codes}
use Rattle.def_term.specs.Text.{atom_text}
use Rattle.tn_verdict.proofs.Pieces.{after_ok}
use Rattle.tn_verdict.proofs.spec_reason_texts.put_expression_reason.Goals as goal

pub returns-in_ok-extend_from_slice-in-NotSupported-clause-ok : goal.returns-in_ok-extend_from_slice-in-NotSupported-clause-ok
returns-in_ok-extend_from_slice-in-NotSupported-clause-ok g c =
    rw c.in-NotSupported.is
    (after_ok c.write_atom-in-NotSupported.result c.args.out.now.items (codes "unsupported function ") (atom_text c.in-NotSupported.name.now) c.extend_from_slice-in-NotSupported.new.self.items c.write_atom-in-NotSupported.new.out.items
    c.in_ok-extend_from_slice-in-NotSupported.ensures.items c.write_atom-in-NotSupported.ensures.ok)
