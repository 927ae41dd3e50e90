use Rattle.std.proofs.Common.{ℕ, ap, arith}
use Rattle.std.proofs.lemmas.List.Sums.{sum_by_more_le}
use Rattle.tn_live.specs.Journal.{made_by}
use Rattle.tn_live.specs.States.{SeatState}
use Rattle.tn_live.proofs.seat.total_made.Goals as goal

abbrev made_of : SeatState → ℕ
made_of s = made_by s.number s.seen

pub returns-then-made-total-clause-none : goal.returns-then-made-total-clause-none
returns-then-made-total-clause-none g c =
    omega (
      arith,
      c.if-made-total.true,
      c.loop-seat.invariant,
      c.made-made.ensures.made,
      ap made_of c.seat-item.is,
      sum_by_more_le made_of c.args.seats.now c.loop-seat.seat-index c.seat-item.result c.loop-seat-test.true,
    )
