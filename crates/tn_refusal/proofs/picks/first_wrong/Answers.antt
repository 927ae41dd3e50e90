use Rattle.std.proofs.Common.{◌∙◌, ◌+◌, refl, arith}
use Rattle.tn_refusal.proofs.PickPieces.{wrong_here, right_here, goes_on, goes_on_as, last_piece}
use Rattle.tn_refusal.proofs.picks.first_wrong.Goals as goal
use Rattle.tn_refusal.proofs.picks.first_wrong.Goals.{then-text-i-eq32+in-None, else-text-i-eq32}

pub returns-in-Some : goal.returns-in-Some
returns-in-Some c =
    wrong_here c.args.text.now c.loop-i.number c.loop-i.from c.loop-i.i _ c.loop-i-test.true c.if-text-i-eq32.true c.in-Some.ensures c.loop-i.invariant.same

pub loop-i-preserved : goal.loop-i-preserved
loop-i-preserved c =
    let text = c.args.text.now in
    let n = c.loop-i.number in
    let i = c.loop-i.i in
    let begun = c.loop-i.invariant.begun in
    let few = c.loop-i.invariant.few in
    elim c.if-text-i-eq32.branch [
      | then-text-i-eq32+in-None w ↦
          let at = w.from-is in
          let next = w.number-is in
          record {
            begun = omega (arith, at);
            few = omega (arith, few, next);
            same = goes_on_as text (n + 1) _ (i + 1) _ (i + 1) at next (right_here text n (n + 1) c.loop-i.from i c.loop-i-test.true w.if-text-i-eq32.true refl w.in-None.ensures c.loop-i.invariant.same);
          }
      | else-text-i-eq32 w ↦
          let at = w.from-is in
          let next = w.number-is in
          record {
            begun = omega (arith, at, begun);
            few = omega (arith, few, next);
            same = goes_on_as text n _ c.loop-i.from _ (i + 1) at next (goes_on text n c.loop-i.from i begun c.loop-i-test.true w.if-text-i-eq32.false c.loop-i.invariant.same);
          }
    ]

pub returns : goal.returns
returns c = c.wrong_pick-2.ensures ∙ last_piece c.args.text.now c.loop-i.number c.loop-i.from c.loop-i.i c.loop-i-test.false c.loop-i.auto.i-end c.loop-i.invariant.same
