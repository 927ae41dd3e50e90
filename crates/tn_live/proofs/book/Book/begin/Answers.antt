use Rattle.std.proofs.Common.{◌∙◌, List, map, length, refl, sym, ap, subst}
use Rattle.tn_trace.specs.Cores.{core_of}
use Rattle.tn_live.specs.declared.entry.Entry.{Entry}
use Rattle.tn_live.specs.Journal.{picks_of}
use Rattle.tn_live.specs.States.{IsJournal}
use Rattle.tn_live.specs.Places.{item_places}
use Rattle.tn_live.proofs.Journals.{counts_none}
use Rattle.tn_live.proofs.book.Book.begin.Goals as goal

pub invariant_of-book : goal.invariant_of-book
invariant_of-book g c =
    let p = g.J.JournalName.program in record {
      reached = c.under_name-head.ensures ∙ sym c.new.ensures.items;
      core = c.requires.core ∙ ap (λ (es : List Entry). core_of p (picks_of es)) (sym c.new.ensures.items);
      moved = subst (IsJournal p) (sym c.new.ensures.items) refl;
      placed = ap (map (λ v. v.items)) c.new-2.ensures.items ∙ sym (ap (λ (es : List Entry). item_places p (picks_of es) (length es)) c.new.ensures.items);
      counted = counts_none c.new.result.items c.new.ensures.items;
    }
