use Rattle.std.proofs.Common.{◌∙◌, ◌+◌, false, map, sym, subst, arith}
use Rattle.std.proofs.lemmas.Result.{err_from_is_err_and}
use Rattle.tn_term.specs.Views.{tree_of}
use Rattle.tn_trace_text.proofs.LinesRead.{ReadTo, read_start, read_more, read_end, read_refused}
use Rattle.tn_trace_text.proofs.reader.read_trace.Goals as goal

pub loop-rest-init : goal.loop-rest-init
loop-rest-init g c = record {
  within = omega arith;
  read = subst (λ ts. ReadTo c.args.text.now c.args.text.now false 0 (map (tree_of {A = g.row.A.Denot}) ts)) (sym c.new-messages.ensures.items) (read_start c.args.text.now);
}

pub returns-in_err-add_line : goal.returns-in_err-add_line
returns-in_err-add_line g c =
    let p = err_from_is_err_and c.from_residual.result c.from_residual.ensures.1 in
    let ts = map tree_of c.loop-rest.messages.items in
    rw (p.1, p.2)
    (read_refused c.args.text.now c.loop-rest.rest.now c.first_line.result.0.now c.first_line.result.1.now c.loop-rest.inside c.loop-rest.number ts c.in_err-add_line.field-0.0 c.loop-rest.invariant.read c.first_line.ensures.cut c.in_err-add_line.ensures.refused)

pub loop-rest-preserved : goal.loop-rest-preserved
loop-rest-preserved g c =
    let shorter = c.first_line.ensures.shorter in
    let within = c.loop-rest.invariant.within in
    record {
      within = omega (arith, shorter, within);
      read = subst (λ i. ReadTo c.args.text.now c.first_line.result.1.now i (c.loop-rest.number + 1) (map (tree_of {A = g.row.A.Denot}) c.add_line.new.messages.items)) (sym c.is_inside_after-inside.ensures)
          (read_more {A = g.row.A.Denot} c.args.text.now c.loop-rest.rest.now c.first_line.result.0.now c.first_line.result.1.now c.loop-rest.inside c.loop-rest.number c.loop-rest.messages.items c.add_line.new.messages.items c.loop-rest.invariant.read
          c.first_line.ensures.cut c.in_ok-add_line.ensures.added);
    }

pub returns : goal.returns
returns g c = read_end c.args.text.now c.loop-rest.rest.now c.loop-rest.inside c.loop-rest.number (map tree_of c.loop-rest.messages.items) (sym c.is_empty.ensures ∙ c.loop-rest-test.false) c.loop-rest.invariant.read
