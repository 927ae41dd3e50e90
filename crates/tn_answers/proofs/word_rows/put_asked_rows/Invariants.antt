use Rattle.std.proofs.Common.{◌≡◌, ◌++◌, drop, flat_map}
use Rattle.def_formats.specs.JsonRows.{json_line}
use Rattle.def_compare.specs.AnswerRows.{asked_row}
use Rattle.tn_answers.specs.AnswerViews.{session_name_seen}
use Rattle.tn_answers.proofs.word_rows.put_asked_rows.Given as goal

abbrev pub invariant-loop-session : goal.invariant-loop-session
invariant-loop-session g l =
    l.out.lines.items ++ flat_map (λ s. json_line (asked_row (session_name_seen s))) (drop l.session-index l.sessions) ≡ l.fn.out.lines.items ++ flat_map (λ s. json_line (asked_row (session_name_seen s))) l.sessions
