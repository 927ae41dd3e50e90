-- A run that shows a trace in its own order shows it by process.
use Rattle.std.proofs.Common.{ℕ, List, ◌++◌, ◌∙◌, ap, append_assoc}
use Rattle.def_script.specs.Program.{Program}
use Rattle.def_run.specs.Run.{moves}
use Rattle.def_explore.specs.Rests.{all_messages, by_process}
use Rattle.def_explore.specs.Answers.{IsJournalFrom}
use Rattle.def_compare.specs.Entries.{IsPossibleBy}
use Rattle.def_compare.specs.InOrder.{RunInOrderShows}
use Rattle.def_compare.proofs.Matches.{match_is_possible, possible_rests}

-- a journal that goes on from one that goes on from these picks
pub journal_after : (p : Program) (before mid journal : List ℕ) → IsJournalFrom p before mid → IsJournalFrom p mid journal → IsJournalFrom p before journal
journal_after p before mid journal one other = record {
  more = one.more ++ other.more;
  goes_on = other.goes_on ∙ ap (λ js. js ++ other.more) (one.moved ∙ one.goes_on) ∙ append_assoc (moves p before) one.more other.more;
  moved = other.moved;
}

pub run_in_order_shows : RunInOrderShows
run_in_order_shows a ss p before es fs m n total first by_one second =
    let one : IsPossibleBy all_messages a ss p before m.entry.journal m.pairs = match_is_possible all_messages a ss p before es m total first in
    let other : IsPossibleBy by_process a ss p m.entry.journal n.entry.journal n.pairs = match_is_possible by_process a ss p m.entry.journal fs n by_one second in
    record {
      from = journal_after p before m.entry.journal n.entry.journal one.from other.from;
      shows = other.shows;
      rests = λ stays. possible_rests by_process a ss p m.entry.journal n.entry.journal n.pairs stays other;
    }
