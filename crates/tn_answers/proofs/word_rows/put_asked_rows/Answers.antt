use Rattle.std.proofs.Common.{arith}
use Rattle.def_formats.specs.JsonRows.{json_line}
use Rattle.def_compare.specs.AnswerRows.{asked_row}
use Rattle.tn_answers.specs.AnswerViews.{session_name_seen}
use Rattle.tn_answers.proofs.Parts.{part_more, all_parts}
use Rattle.tn_answers.proofs.word_rows.put_asked_rows.Goals as goal

pub loop-session-preserved : goal.loop-session-preserved
loop-session-preserved g c =
    let s = c.loop-session in
    part_more (λ x. json_line (asked_row (session_name_seen {A = g.row.N.Denot} x))) c.args.sessions.now s.session-index c.session-item.result s.out.lines.items c.in_ok-out.out.lines.items _ (omega arith) c.session-item.is s.invariant c.in_ok-out.ensures

pub returns : goal.returns
returns g c =
    let s = c.loop-session in
    all_parts (λ x. json_line (asked_row (session_name_seen {A = g.row.N.Denot} x))) c.args.sessions.now s.session-index s.out.lines.items _ (omega arith) s.invariant
