use Rattle.std.proofs.Common.{◌∙◌, ◌++◌, codes, ap}
use Rattle.std.proofs.lemmas.Result.{IfOk-weaker}
use Rattle.def_formats.specs.JsonRows.{account_members, made_row}
use Rattle.tn_formats.specs.Tokens.{move_tokens, text_member, tokens_of_members}
use Rattle.tn_formats.proofs.MemberTokens.{gains_after, row_written, made_front, made_is}
use Rattle.tn_formats.proofs.rows.put_made_row.Goals as goal

pub returns : goal.returns
returns g c =
    let begun = c.in_ok-writer.writer in
    let parts = c.move_parts.result in
    let number = parts.number.now in
    let pick = parts.pick.now in
    let event = parts.event.now in
    let name = c.cut_atom.result.0.now in
    let said = c.cut_atom.result.1.now in
    let w1 = c.put_move.new.writer in
    let w2 = c.put_text_member.new.writer in
    let w3 = c.put_text_member-2.new.writer in
    let w4 = c.put_account_members.new.writer in
    let a = move_tokens number pick event in
    let b = text_member (codes "session") name in
    let d = text_member (codes "line") said in
    let ms = account_members said in
    let two = gains_after w1 w2 w3 b d c.in_ok-put_text_member.ensures c.in_ok-put_text_member-2.ensures in
    let three = gains_after begun w1 w3 a (b ++ d) c.in_ok-put_move.ensures two in
    let all = gains_after begun w3 w4 (a ++ (b ++ d)) (tokens_of_members ms) three c.in_ok-put_account_members.ensures in
    let is = made_is c.args.move_line.now c.args.line.now number pick event c.without_front.result.now name said c.move_parts.ensures.number c.move_parts.ensures.pick c.move_parts.ensures.event c.without_front.ensures c.cut_atom.ensures.atom c.cut_atom.ensures.after in
    let row = row_written begun w4 (made_front number pick event name said) ms (made_row c.args.move_line.now c.args.line.now) c.in_ok-writer.ensures.before c.in_ok-writer.ensures.tokens all is in
    IfOk-weaker c.end_row.result _ _ (λ v h. h ∙ ap (λ text. c.args.out.lines.items ++ text) row) c.end_row.ensures
