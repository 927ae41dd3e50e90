use Rattle.std.proofs.Common.{◌≡◌, ◌+◌, ◌++◌, drop, map}
use Rattle.def_formats.specs.JsonRows.{json_lines}
use Rattle.def_compare.specs.AnswerRows.{entries_rows}
use Rattle.tn_explore.specs.Searches.{answer_entries}
use Rattle.tn_messages.specs.MessageViews.{kept_seen}
use Rattle.tn_answers.specs.AnswerViews.{session_name_seen}
use Rattle.tn_answers.proofs.listing_rows.put_entries_rows.Given as goal

abbrev pub invariant-loop-number : goal.invariant-loop-number
invariant-loop-number g l =
    let es = answer_entries kept_seen l.answers.entries in
    l.out.lines.items ++ json_lines (entries_rows (map session_name_seen l.sessions) l.count (l.number + 1) (drop l.number es)) ≡ l.fn.out.lines.items ++ json_lines (entries_rows (map session_name_seen l.sessions) l.count 1 es)
