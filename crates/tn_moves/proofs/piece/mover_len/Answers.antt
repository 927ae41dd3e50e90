use Rattle.std.proofs.Common.{◌∙◌, sym}
use Rattle.tn_moves.proofs.Readings.{next_escaped, next_inside, next_outside}
use Rattle.tn_moves.proofs.piece.mover_len.Goals as goal
use Rattle.tn_moves.proofs.piece.mover_len.Goals.{then-escaped, else-escaped+then-inside, else-escaped+else-inside+else-ends_mover}

pub loop-i-preserved : goal.loop-i-preserved
loop-i-preserved c =
    let bytes = c.args.bytes.now in
    let l = c.loop-i in
    let new = c.if-escaped in
    elim c.if-escaped.branch [
      | then-escaped w ↦ next_escaped bytes l.i c.loop-i-test.true l.inside l.escaped new.inside new.escaped _ w.if-escaped.true w.inside-is w.escaped-is l.invariant
      | else-escaped+then-inside w ↦
          next_inside bytes l.i c.loop-i-test.true l.inside l.escaped new.inside new.escaped _ w.if-escaped.false w.if-inside.true w.inside-is w.escaped-is l.invariant
      | else-escaped+else-inside+else-ends_mover w ↦
          next_outside bytes l.i c.loop-i-test.true l.inside l.escaped new.inside new.escaped _ w.if-escaped.false w.if-inside.false
          (sym w.ends_mover.ensures ∙ w.if-ends_mover.false) w.inside-is (w.escaped-is ∙ w.if-escaped.false) l.invariant
    ]
