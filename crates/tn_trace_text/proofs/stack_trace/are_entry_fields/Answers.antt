use Rattle.std.proofs.Common.{◌∙◌, sym, arith}
use Rattle.tn_trace_text.proofs.StackTraces.{not_four, of_four}
use Rattle.tn_trace_text.proofs.stack_trace.are_entry_fields.Goals as goal

pub returns-then-fields-ne4 : goal.returns-then-fields-ne4
returns-then-fields-ne4 g c = sym (not_four {A = g.row.A.Denot} c.args.fields.now (λ e. c.if-fields-ne4.true (omega (arith, e))))

pub returns : goal.returns
returns g c =
    c.is_entry.ensures
    ∙ of_four {A = g.row.A.Denot} c.args.fields.now c.index-fields-0.result c.index-fields-1.result c.index-fields-2.result c.index-fields-3.result (omega arith) c.index-fields-0.is c.index-fields-1.is c.index-fields-2.is c.index-fields-3.is
