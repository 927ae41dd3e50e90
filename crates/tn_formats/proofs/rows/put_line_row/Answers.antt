use Rattle.std.proofs.Common.{◌∙◌, ◌++◌, codes, refl, ap}
use Rattle.std.proofs.lemmas.Result.{IfOk-weaker}
use Rattle.def_formats.specs.JsonRows.{line_members, line_row}
use Rattle.tn_formats.specs.Tokens.{number_member, text_member, tokens_of_members}
use Rattle.tn_formats.proofs.MemberTokens.{gains_after, row_written}
use Rattle.tn_formats.proofs.rows.put_line_row.Goals as goal

pub returns : goal.returns
returns g c =
    let line = c.args.line.now in
    let begun = c.in_ok-writer.writer in
    let a = number_member (codes "line") c.args.number in
    let b = text_member (codes "text") line in
    let both = gains_after begun c.put_number_member.new.writer c.put_text_member.new.writer a b c.in_ok-put_number_member.ensures c.in_ok-put_text_member.ensures in
    let all = gains_after begun c.put_text_member.new.writer c.put_line_members.new.writer (a ++ b) (tokens_of_members (line_members line)) both c.in_ok-put_line_members.ensures in
    let row = row_written begun c.put_line_members.new.writer (a ++ b) (line_members line) (line_row c.args.number line) c.in_ok-writer.ensures.before c.in_ok-writer.ensures.tokens all refl in
    IfOk-weaker c.end_row.result _ _ (λ v h. h ∙ ap (λ text. c.args.out.lines.items ++ text) row) c.end_row.ensures
