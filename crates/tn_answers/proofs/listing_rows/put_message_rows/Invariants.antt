use Rattle.std.proofs.Common.{◌≡◌, ◌++◌, ◌+◌, drop, map}
use Rattle.def_formats.specs.JsonRows.{json_lines, message_row, numbered_rows}
use Rattle.def_term.specs.Text.{w}
use Rattle.tn_answers.specs.RowViews.{lent_message}
use Rattle.tn_answers.proofs.listing_rows.put_message_rows.Given as goal

abbrev pub invariant-loop-number : goal.invariant-loop-number
invariant-loop-number g l =
    l.out.lines.items ++ json_lines (numbered_rows (message_row l.names.name.now l.names.tracer.now) (l.number + 1) (map (λ m. w (lent_message m)) (drop l.number l.messages))) ≡
    l.fn.out.lines.items ++ json_lines (numbered_rows (message_row l.names.name.now l.names.tracer.now) 1 (map (λ m. w (lent_message m)) l.messages))
