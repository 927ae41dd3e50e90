use Rattle.std.proofs.Common.{◌≡◌, ◌∙◌, ◌++◌, ◌∷◌, [], ap, refl, sym}
use Rattle.std.proofs.lemmas.Result.{IfOk-weaker}
use Rattle.json.specs.Print.{print}
use Rattle.json.specs.Token.{end_object}
use Rattle.json.specs.Tree.{json_tokens}
use Rattle.def_formats.specs.JsonRows.{json_line}
use Rattle.std.proofs.Common.{codes, map, length, ℕ}
use Rattle.std.proofs.lemmas.List.{length-map}
use Rattle.std.specs.Prelude.{slice_get}
use Rattle.json.specs.Token.{key}
use Rattle.def_compare.specs.AnswerRows.{prefix_row, pairs_value, term_value, there_value, more_value}
use Rattle.tn_comparison.specs.Matches.{prefix_seen, trace_question_seen}
use Rattle.tn_formats.specs.Tokens.{number_member, text_member}
use Rattle.tn_renaming.specs.Pairs.{pair_seen}
use Rattle.tn_term.specs.Views.{tree_of}
use Rattle.tn_answers.proofs.Rows.{row_is, member_after, object_begun, gains_same}
use Rattle.tn_answers.proofs.trace_rows.put_prefix_row.Goals as goal

pub returns : goal.returns
returns g c =
    let a = trace_question_seen c.args.question.now in
    let f = prefix_seen c.args.prefix.now in
    let row = prefix_row a c.args.whole f (slice_get a.messages f.count) in
    let w = c.put_more_member.new.writer in
    let same : w.tokens ++ end_object ∷ [] ≡ json_tokens row = member_after _ _ _ _ _ (gains_same _ _ _ _ (ap (λ t. key (codes "more") ∷ json_tokens (more_value f t)) c.message_after-message.ensures) c.in_ok-put_more_member.ensures)
    (member_after _ _ _ _ _ (gains_same _ _ _ _ (ap (λ t. key (codes "there") ∷ json_tokens (there_value a f t)) c.message_after-message.ensures) c.in_ok-put_there_member.ensures)
    (member_after _ _ _ _ _ (gains_same _ _ _ _ (ap (λ t. key (codes "not_there") ∷ json_tokens (term_value t)) c.message_after-message.ensures) c.in_ok-put_term_member.ensures)
    (member_after _ _ _ _ _ (gains_same _ _ _ _ (ap (λ ps. key (codes "pids") ∷ json_tokens (pairs_value (map pair_seen ps))) c.deref.ensures.value) c.in_ok-put_pairs_member.ensures)
    (member_after _ _ _ _ _ c.in_ok-put_picks_member.ensures
    (member_after _ _ _ _ _ (gains_same _ _ _ _ (ap (λ (n : ℕ). number_member (codes "of") n) (ap length c.as_slice.ensures.value ∙ sym (length-map c.args.question.now.messages.items tree_of))) c.in_ok-put_number_member-2.ensures)
    (member_after _ _ _ _ _ c.in_ok-put_number_member.ensures
    (member_after _ _ _ _ _ (gains_same _ _ _ _ (ap (text_member (codes "answer")) (c.as_bytes.ensures.value ∙ c.no_match_word.ensures)) c.in_ok-put_text_member.ensures)
    (object_begun _ _ _ _ c.in_ok-writer.ensures.tokens refl)))))))) in
    IfOk-weaker c.end_row.result (λ v. v.lines.items ≡ c.args.out.lines.items ++ ((w.before ++ print (w.tokens ++ end_object ∷ [])) ++ 10 ∷ [])) (λ v. v.lines.items ≡ c.args.out.lines.items ++ json_line row)
    (λ v h. h ∙ row_is c.args.out.lines.items w.before w.tokens row (c.in_ok-put_more_member.ensures.before ∙ c.in_ok-put_there_member.ensures.before ∙ c.in_ok-put_term_member.ensures.before ∙ c.in_ok-put_pairs_member.ensures.before ∙ c.in_ok-put_picks_member.ensures.before ∙ c.in_ok-put_number_member-2.ensures.before ∙ c.in_ok-put_number_member.ensures.before ∙ c.in_ok-put_text_member.ensures.before ∙ c.in_ok-writer.ensures.before) same) c.end_row.ensures
