use Rattle.std.proofs.Common.{◌≡◌, length, subst, rules}
use Rattle.tn_live.specs.ClosedJournals.{EndsJournal}
use Rattle.tn_run.specs.RestingSeats.{IsClosedOutput, RunsToRest}
use Rattle.tn_run.proofs.ClosingLemmas.{closed_rests, first_again, if_ok_of}
use Rattle.tn_run.proofs.live.run_core.Goals as goal

pub returns-clause-output : goal.returns-clause-output
returns-clause-output g c =
    let p = g.J.JournalName.program in
    let size : c.in_ok-seats.seats.len ≡ length c.in_ok-seats.seats.items = search rules in
    let same : c.in_ok-seats.seats.len ≡ length c.settle.new.seats = search rules in
    let ends : EndsJournal c.settle.new.seats c.in-Ok-close.closed = subst (λ seats. EndsJournal seats c.in-Ok-close.closed) (first_again c.settle.new.seats _ _ same) c.in-Ok-close.ensures.1 in
    if_ok_of (λ r. IsClosedOutput p c.in-Ok-close.closed r.0.items r.1.items) (λ r. RunsToRest p r.0.items r.1.items) c.finish.result
    (λ r out. closed_rests p c.settle.new.seats c.in-Ok-close.closed r.0.items r.1.items c.in_default-settle.ensures.settled ends out) c.finish.ensures.output
