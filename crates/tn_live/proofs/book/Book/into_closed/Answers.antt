use Rattle.std.proofs.Common.{◌∙◌, List, All, sym, ap, subst, rules, arith}
use Rattle.tn_live.specs.declared.entry.Entry.{Entry}
use Rattle.tn_live.specs.Records.{record_entries}
use Rattle.tn_live.specs.States.{SeatState, HasPrefix}
use Rattle.tn_live.specs.ClosedJournals.{AreEntered}
use Rattle.tn_live.proofs.book.Book.into_closed.Goals as goal

pub returns : goal.returns
returns g c =
    let same = sym (ap (λ b. b.entries) c.self.view_is) ∙ ap record_entries c.in_ok-record.was in
    let fit = c.all_fit.ensures (search rules) in record {
      begins = subst (λ (es : List Entry). All (λ (s : SeatState). HasPrefix es s.number s.seen) c.args.seats.now) same (λ k d lt. (fit k d lt).1);
      entered = subst (AreEntered c.args.seats.now) c.deref.ensures.value (c.are_entered.ensures (search rules));
      all_made = omega (arith, c.len.ensures, c.in_ok-record.record.entries.ok.0, c.if-made-len.false, c.in_ok-made.ensures);
    }
