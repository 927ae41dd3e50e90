use Rattle.std.proofs.Common.{◌≡◌, ◌∙◌, ◌++◌, ◌∷◌, [], ap, refl}
use Rattle.std.proofs.lemmas.Result.{IfOk-weaker}
use Rattle.json.specs.Print.{print}
use Rattle.json.specs.Token.{end_object}
use Rattle.json.specs.Tree.{json_tokens}
use Rattle.def_formats.specs.JsonRows.{json_line}
use Rattle.std.proofs.Common.{ℕ, List, codes}
use Rattle.std.specs.Borrow.{Bor}
use Rattle.std.specs.Option.{option_map}
use Rattle.json.specs.Token.{key, boolean}
use Rattle.def_compare.specs.AnswerRows.{word_row}
use Rattle.tn_formats.specs.Tokens.{text_member}
use Rattle.tn_message_pattern.specs.Questions.{pattern_question_seen}
use Rattle.tn_answers.proofs.Rows.{row_is, member_after, object_begun, gains_same}
use Rattle.tn_answers.proofs.word_rows.put_word_row.Goals as goal

pub returns : goal.returns
returns g c =
    let row = word_row (pattern_question_seen c.args.question.now) (option_map (λ (v : Bor (List ℕ)). v.now) c.args.found.shown) (option_map (λ (v : Bor (List ℕ)). v.now) c.args.found.missed) c.args.whole in
    let w = c.put_journal_member-2.new.writer in
    let same : w.tokens ++ end_object ∷ [] ≡ json_tokens row = member_after _ _ _ _ _ c.in_ok-put_journal_member-2.ensures
    (member_after _ _ _ _ _ c.in_ok-put_journal_member.ensures
    (member_after _ _ _ _ _ (gains_same _ _ _ _ (ap (λ b. key (codes "refuted") ∷ boolean b ∷ []) c.is_refuted-refuted.ensures) c.in_ok-put_boolean_member.ensures)
    (member_after _ _ _ _ _ (gains_same _ _ _ _ (ap (text_member (codes "demand")) (c.as_bytes-2.ensures.value ∙ c.demand_text.ensures)) c.in_ok-put_text_member-2.ensures)
    (member_after _ _ _ _ _ (gains_same _ _ _ _ (ap (text_member (codes "word")) (c.as_bytes.ensures.value ∙ c.word_of-word.ensures)) c.in_ok-put_text_member.ensures)
    (member_after _ _ _ _ _ c.in_ok-put_text_of.ensures
    (object_begun _ _ _ _ c.in_ok-writer.ensures.tokens refl)))))) in
    IfOk-weaker c.end_row.result (λ v. v.lines.items ≡ c.args.out.lines.items ++ ((w.before ++ print (w.tokens ++ end_object ∷ [])) ++ 10 ∷ [])) (λ v. v.lines.items ≡ c.args.out.lines.items ++ json_line row)
    (λ v h. h ∙ row_is c.args.out.lines.items w.before w.tokens row (c.in_ok-put_journal_member-2.ensures.before ∙ c.in_ok-put_journal_member.ensures.before ∙ c.in_ok-put_boolean_member.ensures.before ∙ c.in_ok-put_text_member-2.ensures.before ∙ c.in_ok-put_text_member.ensures.before ∙ c.in_ok-put_text_of.ensures.before ∙ c.in_ok-writer.ensures.before) same) c.end_row.ensures
