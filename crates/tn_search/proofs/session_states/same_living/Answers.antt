use Rattle.std.proofs.Common.{◌≡◌, length, false, arith, sym, ◌∙◌, rules}
use Rattle.tn_term.specs.Views.{alive_of}
use Rattle.tn_session.proofs.SamePlaces.{same_by_place}
use Rattle.tn_search.proofs.session_states.same_living.Goals as goal

pub returns : goal.returns
returns c _ =
    let one : length (alive_of c.args.one) ≡ 64 = search rules in
    let other : length (alive_of c.args.other) ≡ 64 = search rules in
    same_by_place false (alive_of c.args.one) (alive_of c.args.other) (one ∙ sym other) (λ k below. c.loop-place.invariant k (omega (arith, below, one, c.loop-place-test.false)))
