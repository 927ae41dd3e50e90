use Rattle.std.proofs.Common.{◌≡◌, ◌∙◌, ◌++◌, ◌∷◌, [], ap, refl}
use Rattle.std.proofs.lemmas.Result.{IfOk-weaker}
use Rattle.json.specs.Print.{print}
use Rattle.json.specs.Token.{end_object}
use Rattle.json.specs.Tree.{json_tokens}
use Rattle.def_formats.specs.JsonRows.{json_line}
use Rattle.std.proofs.Common.{codes, map}
use Rattle.json.specs.Token.{key}
use Rattle.def_compare.specs.AnswerRows.{possible_row, pairs_value}
use Rattle.tn_comparison.specs.Matches.{match_seen}
use Rattle.tn_renaming.specs.Pairs.{pair_seen}
use Rattle.tn_answers.proofs.Rows.{row_is, member_after, object_begun, gains_same}
use Rattle.tn_answers.proofs.trace_rows.put_possible_row.Goals as goal

pub returns : goal.returns
returns g c =
    let row = possible_row (match_seen c.args.found.now) in
    let w = c.put_pairs_member.new.writer in
    let same : w.tokens ++ end_object ∷ [] ≡ json_tokens row = member_after _ _ _ _ _ (gains_same _ _ _ _ (ap (λ ps. key (codes "pids") ∷ json_tokens (pairs_value (map pair_seen ps))) c.deref.ensures.value) c.in_ok-put_pairs_member.ensures)
    (member_after _ _ _ _ _ c.in_ok-put_picks_member.ensures
    (member_after _ _ _ _ _ c.in_ok-put_text_member.ensures
    (object_begun _ _ _ _ c.in_ok-writer.ensures.tokens refl))) in
    IfOk-weaker c.end_row.result (λ v. v.lines.items ≡ c.args.out.lines.items ++ ((w.before ++ print (w.tokens ++ end_object ∷ [])) ++ 10 ∷ [])) (λ v. v.lines.items ≡ c.args.out.lines.items ++ json_line row)
    (λ v h. h ∙ row_is c.args.out.lines.items w.before w.tokens row (c.in_ok-put_pairs_member.ensures.before ∙ c.in_ok-put_picks_member.ensures.before ∙ c.in_ok-put_text_member.ensures.before ∙ c.in_ok-writer.ensures.before) same) c.end_row.ensures
