use Rattle.std.proofs.Common.{◌∙◌, ◌∷◌, [], ap, length, arith}
use Rattle.tn_explore.specs.Searches.{answer_entries}
use Rattle.tn_messages.specs.MessageViews.{kept_seen}
use Rattle.tn_search.proofs.OnlyEntries.{only_inserted}
use Rattle.tn_search.proofs.greedy.only_answer.Goals as goal

pub returns : goal.returns
returns g c = λ x a is_of.
    let kept = c.in_ok-kept.kept in
    let journal = c.in_ok-journal.journal in
    let entries = only_inserted _ _ _ kept journal c.new-answers.ensures.empty c.in_ok-insert.ensures.entries in
    let same = c.in_ok-kept.ensures x a is_of in
    let moves = c.in_ok-journal.ensures in
    let long = ap length moves in
    record {
      entry = ap (answer_entries kept_seen) entries ∙ (λ i. record { kept = same i; journal = moves i } ∷ []);
      states = omega (arith, long, journal.ok.0, c.len.ensures, c.saturating_sub-states.ensures);
    }
