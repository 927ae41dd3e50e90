use Rattle.std.proofs.Common.{◌∙◌, ◌++◌, ◌+◌, List, ℕ, arith, ap, sym}
use Rattle.def_formats.specs.JsonRows.{json_line, json_lines, message_row, numbered_rows}
use Rattle.def_term.specs.Text.{w}
use Rattle.tn_answers.specs.RowViews.{lent_message}
use Rattle.tn_answers.proofs.Parts.{lists_seen_twice}
use Rattle.tn_answers.proofs.Rows.{row_more, rows_end}
use Rattle.tn_answers.proofs.listing_rows.put_message_rows.Goals as goal

pub loop-number-preserved : goal.loop-number-preserved
loop-number-preserved g c =
    let s = c.loop-number in
    row_more (message_row c.args.names.name.now c.args.names.tracer.now) (λ m. w (lent_message {A = g.row.M.Denot} m)) c.args.messages.now s.number c.index-messages-number.result s.out.lines.items c.in_ok-out.out.lines.items _ (omega arith) c.index-messages-number.is s.invariant
    (c.in_ok-out.ensures ∙ ap (λ t. s.out.lines.items ++ json_line (message_row c.args.names.name.now c.args.names.tracer.now (s.number + 1) t)) c.text.ensures)

pub returns : goal.returns
returns g c =
    let s = c.loop-number in
    rows_end (message_row c.args.names.name.now c.args.names.tracer.now) (λ m. w (lent_message {A = g.row.M.Denot} m)) c.args.messages.now s.number s.out.lines.items _ (omega arith) s.invariant
    ∙ ap (λ (ts : List (List ℕ)). c.args.out.lines.items ++ json_lines (numbered_rows (message_row c.args.names.name.now c.args.names.tracer.now) 1 ts)) (sym (lists_seen_twice (lent_message {A = g.row.M.Denot}) w c.args.messages.now))
