use Rattle.std.proofs.Common.{Option, subst}
use Rattle.tn_live.specs.States.{SeatState, seat_of, HasPrefix}
use Rattle.tn_live.specs.SeatTurns.{SeatCounts}
use Rattle.tn_live.specs.Records.{record_entries}
use Rattle.tn_live.proofs.BookTurns.{turns_seen, seat_counts}
use Rattle.tn_live.proofs.book.Book.step.Goals as goal
use Rattle.tn_live.proofs.book.Book.step.Goals.{in-Ok, in-Err-LimitReached, in-Err-Spent, in-Err-OutOfMemory}

pub invariant_of-seat : goal.invariant_of-seat
invariant_of-seat g c = turns_seen g.J.JournalName.program c.args.pick c.in-Some.record c.step.new.self c.seat.inside.seen c.step.new.seen c.step.result c.seat.invariant c.step.ensures

pub returns-clause-counts : goal.returns-clause-counts
returns-clause-counts g c =
    let fits = rw (← c.self.view_is, ← c.seat.view_is) at c.requires in
    let begins = subst (λ (o : Option _). HasPrefix (record_entries o) c.seat.inside.seen.number c.seat.inside.seen.entries.items) c.in-Some.is fits.1 in
    let t = c.step.new.seen in
    let counted = seat_counts g.J.JournalName.program c.args.pick c.in-Some.record c.step.new.self c.seat.inside.seen t c.step.result begins c.step.ensures in
    let counts = subst (λ (v : SeatState). SeatCounts v c.step.result (seat_of t.number t.entries.items)) c.seat.view_is counted in
    elim c.match-step.branch [
      | in-Ok w ↦ rw w.result-is (rw w.in-Ok.is at counts)
      | in-Err-LimitReached w ↦ rw w.result-is (rw w.in-Err-LimitReached.is at counts)
      | in-Err-Spent w ↦ rw w.result-is (rw w.in-Err-Spent.is at counts)
      | in-Err-OutOfMemory w ↦ rw w.result-is (rw w.in-Err-OutOfMemory.is at counts)
    ]
