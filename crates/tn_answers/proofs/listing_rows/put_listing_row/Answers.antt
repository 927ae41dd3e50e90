use Rattle.std.proofs.Common.{◌≡◌, ◌∙◌, ◌++◌, ◌∷◌, [], refl}
use Rattle.std.proofs.lemmas.Result.{IfOk-weaker}
use Rattle.json.specs.Print.{print}
use Rattle.json.specs.Token.{end_object}
use Rattle.json.specs.Tree.{json_tokens}
use Rattle.def_formats.specs.JsonRows.{json_line}
use Rattle.def_compare.specs.AnswerRows.{listing_row}
use Rattle.tn_answers.proofs.Rows.{row_is, member_after, object_begun}
use Rattle.tn_answers.proofs.listing_rows.put_listing_row.Goals as goal

pub returns : goal.returns
returns g c =
    let row = listing_row c.args.number c.args.count c.args.journal.now in
    let w = c.put_picks_member.new.writer in
    let same : w.tokens ++ end_object ∷ [] ≡ json_tokens row = member_after _ _ _ _ _ c.in_ok-put_picks_member.ensures
    (member_after _ _ _ _ _ c.in_ok-put_number_member-2.ensures
    (member_after _ _ _ _ _ c.in_ok-put_number_member.ensures
    (object_begun _ _ _ _ c.in_ok-writer.ensures.tokens refl))) in
    IfOk-weaker c.end_row.result (λ v. v.lines.items ≡ c.args.out.lines.items ++ ((w.before ++ print (w.tokens ++ end_object ∷ [])) ++ 10 ∷ [])) (λ v. v.lines.items ≡ c.args.out.lines.items ++ json_line row)
    (λ v h. h ∙ row_is c.args.out.lines.items w.before w.tokens row (c.in_ok-put_picks_member.ensures.before ∙ c.in_ok-put_number_member-2.ensures.before ∙ c.in_ok-put_number_member.ensures.before ∙ c.in_ok-writer.ensures.before) same) c.end_row.ensures
