use Rattle.std.proofs.Common.{◌≡◌, ◌+◌, ◌++◌, drop, map}
use Rattle.def_compare.specs.AnswerSummaries.{entry_texts_in}
use Rattle.tn_explore.specs.Searches.{answer_entries}
use Rattle.tn_messages.specs.MessageViews.{kept_seen}
use Rattle.tn_answers.specs.AnswerViews.{session_name_seen}
use Rattle.tn_answers.proofs.text.put_entries.Given as goal

abbrev pub invariant-loop-number : goal.invariant-loop-number
invariant-loop-number g l =
    let es = answer_entries kept_seen l.answers.entries in
    l.out.items ++ entry_texts_in l.is_summary (map session_name_seen l.sessions) l.count (l.number + 1) (drop l.number es) ≡ l.fn.out.items ++ entry_texts_in l.is_summary (map session_name_seen l.sessions) l.count 1 es
