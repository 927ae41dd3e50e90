use Rattle.std.proofs.Common.{arith, rules, subst}
use Rattle.std.proofs.lemmas.List.{take_all}
use Rattle.std.proofs.lemmas.List.Elements.{All-more}
use Rattle.tn_live.specs.declared.entry.Entry.{Entry}
use Rattle.tn_live.specs.Journal.{entry}
use Rattle.tn_live.specs.ClosedJournals.{LacksSeat, AreEntered}
use Rattle.tn_live.proofs.seat.are_entered.Goals as goal

pub loop-entry-preserved : goal.loop-entry-preserved
loop-entry-preserved g c =
    let P = λ (e : Entry). LacksSeat c.args.seats.now e.seat → ⊥ in
    All-more P c.args.entries.now _ (entry 0 0) c.loop-entry-test.true c.loop-entry.invariant (c.has_seat.ensures.has (search rules))

pub returns : goal.returns
returns g c = λ _. subst (AreEntered c.args.seats.now) (take_all _ c.args.entries.now (omega arith)) c.loop-entry.invariant
