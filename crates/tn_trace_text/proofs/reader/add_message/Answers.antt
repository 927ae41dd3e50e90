use Rattle.std.proofs.Common.{◌≡◌, ◌∙◌, ◌∷◌, ◌++◌, [], sym, rules}
use Rattle.std.proofs.lemmas.Result.{err_from_is_err_and}
use Rattle.def_trace_text.specs.Lines.{trace_text_lines}
use Rattle.def_trace_text.proofs.WholeLines.{passed_alike}
use Rattle.tn_trace_text.proofs.LinesRead.{add_further_one}
use Rattle.tn_trace_text.proofs.reader.add_message.Goals as goal

pub returns-clause-added : goal.returns-clause-added
returns-clause-added g c =
    let grown : c.push.new.self.items ≡ c.args.messages.now.items ++ c.in_ok-message.message ∷ [] = search rules in
    add_further_one {A = g.row.A.Denot} c.args.line.now (trace_text_lines c.args.after.now) c.in_ok-message.message c.args.messages.now.items c.push.new.self.items (sym c.is_passed_over.ensures ∙ c.if-is_passed_over.false) c.in_ok-message.ensures grown

pub returns-then-is_err-clause-refused : goal.returns-then-is_err-clause-refused
returns-then-is_err-clause-refused g c = (passed_alike c.args.line.now (trace_text_lines c.args.after.now) ∙ sym c.is_passed_over.ensures ∙ c.if-is_passed_over.false, tt)

pub returns-in_err-message-clause-refused : goal.returns-in_err-message-clause-refused
returns-in_err-message-clause-refused g c =
    let p = err_from_is_err_and c.from_residual.result c.from_residual.ensures.1 in
    rw (p.1, p.2) (passed_alike c.args.line.now (trace_text_lines c.args.after.now) ∙ sym c.is_passed_over.ensures ∙ c.if-is_passed_over.false, c.in_err-message.ensures)
