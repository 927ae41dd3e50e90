use Rattle.std.proofs.Common.{◌≡◌, ◌∙◌, take, drop, true, ap, sym, subst, arith}
use Rattle.def_text.specs.Tokens.{is_blank, all_are}
use Rattle.tn_trace_text.proofs.Contents.{left_before, none_left}
use Rattle.tn_trace_text.proofs.line.without_blanks.Goals as goal
use Rattle.tn_trace_text.proofs.line.without_blanks.Goals.{then-loop-end-test+else-is_blank, else-loop-end-test}

pub returns : goal.returns
returns c =
    let line = c.args.line.now in
    elim c.loop-end-test.branch [
      | then-loop-end-test+else-is_blank w ↦ sym (left_before line c.loop-end.end (omega arith) c.loop-end.invariant.0 (sym w.is_blank.ensures ∙ w.if-is_blank.false) c.loop-end.invariant.1)
      | else-loop-end-test w ↦
          let zero : c.loop-end.end ≡ 0 = omega arith in
          ap (λ n. take n line) zero ∙ sym (none_left line (subst (λ n. all_are is_blank (drop n line) ≡ true) zero c.loop-end.invariant.1))
    ]
