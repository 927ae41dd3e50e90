use Rattle.std.proofs.Common.{arith, rules, All, subst}
use Rattle.std.proofs.lemmas.List.{take_all}
use Rattle.std.proofs.lemmas.List.Elements.{All-more}
use Rattle.tn_live.specs.States.{SeatState, SeatFits}
use Rattle.tn_live.proofs.book.all_fit.Goals as goal

pub loop-seat-preserved : goal.loop-seat-preserved
loop-seat-preserved g c =
    let P = λ (s : SeatState). SeatFits c.args.book.now s in
    All-more P c.args.seats.now _ c.seat-item.result c.loop-seat-test.true c.loop-seat.invariant (subst P c.seat-item.is (c.admits.ensures.0 (search rules)))

pub returns : goal.returns
returns g c = λ _. subst (All (λ (s : SeatState). SeatFits c.args.book.now s)) (take_all _ c.args.seats.now (omega arith)) c.loop-seat.invariant
