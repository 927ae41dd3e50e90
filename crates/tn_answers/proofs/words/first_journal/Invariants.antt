use Rattle.std.proofs.Common.{◌≡◌, drop}
use Rattle.tn_answers.specs.AnswerViews.{first_journal}
use Rattle.tn_explore.specs.Searches.{answer_entries}
use Rattle.tn_messages.specs.MessageViews.{kept_seen}
use Rattle.tn_spec.specs.Views.{pattern_seen}
use Rattle.tn_answers.proofs.words.first_journal.Given as goal

abbrev pub invariant-loop-place : goal.invariant-loop-place
invariant-loop-place g l =
    let a = pattern_seen l.pattern.pattern in
    let es = answer_entries kept_seen l.answers.entries in
    first_journal l.shown a es ≡ first_journal l.shown a (drop l.place es)
