use Rattle.std.proofs.Common.{◌+◌, drop, ◌&&◌, ap, sym, ◌∙◌, arith}
use Rattle.tn_fun.proofs.Endings.{all_wait, wait_here, wait_past, parts_wait}
use Rattle.tn_fun.proofs.expr_end.none_open.Goals as goal

pub returns-then-not-is_operator : goal.returns-then-not-is_operator
returns-then-not-is_operator g c = λ text.
    let vs = c.args.parts.now in
    let i = c.loop-part.part-index in
    let here = wait_here text vs i c.part-item.result (omega arith) c.part-item.is in
    let no = sym (c.is_operator.ensures text) ∙ c.if-not-is_operator.true in
    sym (sym (c.loop-part.invariant text) ∙ here ∙ ap (λ b. b && all_wait text (drop (i + 1) vs)) no) ∙ parts_wait text vs

pub loop-part-preserved : goal.loop-part-preserved
loop-part-preserved g c = λ text.
    let vs = c.args.parts.now in
    let i = c.loop-part.part-index in
    let here = wait_here text vs i c.part-item.result (omega arith) c.part-item.is in
    let waits = sym (c.is_operator.ensures text) ∙ c.if-not-is_operator.false in
    sym (here ∙ ap (λ b. b && all_wait text (drop (i + 1) vs)) waits) ∙ c.loop-part.invariant text

pub returns : goal.returns
returns g c = λ text.
    let vs = c.args.parts.now in
    sym (wait_past text vs c.loop-part.part-index (omega arith)) ∙ c.loop-part.invariant text ∙ parts_wait text vs
