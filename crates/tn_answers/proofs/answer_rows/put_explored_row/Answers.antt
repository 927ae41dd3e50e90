use Rattle.std.proofs.Common.{◌≡◌, ◌∙◌, ◌++◌, ◌∷◌, [], ap, refl}
use Rattle.std.proofs.lemmas.Result.{IfOk-weaker}
use Rattle.json.specs.Print.{print}
use Rattle.json.specs.Token.{end_object}
use Rattle.json.specs.Tree.{json_tokens}
use Rattle.def_formats.specs.JsonRows.{json_line}
use Rattle.std.proofs.Common.{codes, length}
use Rattle.def_compare.specs.AnswerRows.{explored_row}
use Rattle.tn_explore.specs.Searches.{answer_entries}
use Rattle.tn_formats.specs.Tokens.{number_member}
use Rattle.tn_messages.specs.MessageViews.{kept_seen}
use Rattle.tn_answers.proofs.Parts.{count_is}
use Rattle.tn_answers.proofs.Rows.{row_is, member_after, object_begun, gains_same}
use Rattle.tn_answers.proofs.answer_rows.put_explored_row.Goals as goal

pub returns : goal.returns
returns g c =
    let row = explored_row c.args.exploration.now.states (length (answer_entries (kept_seen {A = g.row.A.Denot}) c.args.exploration.now.answers.entries)) c.args.exploration.now.is_complete in
    let w = c.put_number_member-2.new.writer in
    let same : w.tokens ++ end_object ∷ [] ≡ json_tokens row = member_after _ _ _ _ _ (gains_same _ _ _ _ (ap (number_member (codes "listings")) (count_is c.args.exploration.now.answers.entries c.len.result c.len.ensures.len)) c.in_ok-put_number_member-2.ensures)
    (member_after _ _ _ _ _ c.in_ok-put_number_member.ensures
    (member_after _ _ _ _ _ c.in_ok-put_boolean_member.ensures
    (object_begun _ _ _ _ c.in_ok-writer.ensures.tokens refl))) in
    IfOk-weaker c.end_row.result (λ v. v.lines.items ≡ c.args.out.lines.items ++ ((w.before ++ print (w.tokens ++ end_object ∷ [])) ++ 10 ∷ [])) (λ v. v.lines.items ≡ c.args.out.lines.items ++ json_line row)
    (λ v h. h ∙ row_is c.args.out.lines.items w.before w.tokens row (c.in_ok-put_number_member-2.ensures.before ∙ c.in_ok-put_number_member.ensures.before ∙ c.in_ok-put_boolean_member.ensures.before ∙ c.in_ok-writer.ensures.before) same) c.end_row.ensures
