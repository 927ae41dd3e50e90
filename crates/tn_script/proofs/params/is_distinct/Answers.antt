use Rattle.std.proofs.Common.{◌+◌, ◌&&◌, not, drop, sym, ap, ◌∙◌, arith}
use Rattle.def_script.specs.Shapes.{are_distinct}
use Rattle.tn_script.proofs.Distinct.{distinct_rest}
use Rattle.tn_script.proofs.params.is_distinct.Goals as goal

pub returns-then-contains : goal.returns-then-contains
returns-then-contains g c =
    sym
    (c.loop-i.invariant ∙ distinct_rest c.args.atoms.now c.loop-i.i c.index-atoms-i.result c.text.result.now c.contains.result (omega arith) c.index-atoms-i.is c.text.ensures.text c.contains.ensures
    ∙ ap (λ b. not b && are_distinct (drop (c.loop-i.i + 1) c.args.atoms.now)) c.if-contains.true)

pub loop-i-preserved : goal.loop-i-preserved
loop-i-preserved g c =
    c.loop-i.invariant ∙ distinct_rest c.args.atoms.now c.loop-i.i c.index-atoms-i.result c.text.result.now c.contains.result (omega arith) c.index-atoms-i.is c.text.ensures.text c.contains.ensures
    ∙ ap (λ b. not b && are_distinct (drop (c.loop-i.i + 1) c.args.atoms.now)) c.if-contains.false
