use Rattle.std.proofs.Common.{sym, subst}
use Rattle.tn_term.specs.Views.{tree_of}
use Rattle.tn_trace_text.specs.Readings.{IsTextFault}
use Rattle.tn_trace_text.proofs.LinesRead.{text_fault, message_text_read}
use Rattle.tn_trace_text.proofs.reader.read_text.Goals as goal

pub returns-in-Err : goal.returns-in-Err
returns-in-Err g c =
    subst (λ f. IsTextFault c.args.text.now c.args.number f) (sym c.fault_at.ensures)
    (text_fault c.args.text.now c.args.number c.in-Err.fault c.in-Err.ensures)

pub returns-in-Ok : goal.returns-in-Ok
returns-in-Ok g c =
    message_text_read {A = g.row.A.Denot} c.args.text.now (tree_of c.in-Ok.term) c.args.number c.message_of.result c.in-Ok.ensures c.message_of.ensures
