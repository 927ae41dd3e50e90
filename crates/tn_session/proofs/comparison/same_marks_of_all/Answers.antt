use Rattle.std.proofs.Common.{[], sym, ◌∙◌, arith}
use Rattle.tn_session.specs.Views.{marks_seen}
use Rattle.tn_session.proofs.SamePlaces.{same_by_place, marks_of_64}
use Rattle.tn_session.proofs.comparison.same_marks_of_all.Goals as goal

pub returns : goal.returns
returns g c _ =
    let one = marks_of_64 c.args.one.now c.loop-place.invariant.few_in_one in
    let other = marks_of_64 c.args.other.now c.loop-place.invariant.few_in_other in
    same_by_place [] (marks_seen c.args.one.now) (marks_seen c.args.other.now) (one ∙ sym other) (λ k below. c.loop-place.invariant.below k (omega (arith, below, one, c.loop-place-test.false)))
