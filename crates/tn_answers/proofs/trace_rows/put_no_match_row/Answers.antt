use Rattle.std.proofs.Common.{◌≡◌, ◌∙◌, ◌++◌, ap, sym, map, length}
use Rattle.std.proofs.lemmas.Result.{IfOk-weaker}
use Rattle.std.specs.Option.{option_map}
use Rattle.std.specs.Prelude.{None, slice_get}
use Rattle.def_compare.specs.AnswerRows.{answer_row, prefix_row, trace_prefix_row, trace_row}
use Rattle.def_compare.specs.Entries.{longest_prefix}
use Rattle.def_compare.specs.Output.{no_match_word}
use Rattle.def_formats.specs.JsonRows.{json_line}
use Rattle.tn_comparison.specs.Matches.{trace_question_seen, prefix_seen}
use Rattle.tn_explore.specs.Searches.{answer_entries}
use Rattle.tn_messages.specs.MessageViews.{kept_seen}
use Rattle.tn_term.specs.Views.{tree_of}
use Rattle.tn_answers.proofs.trace_rows.put_no_match_row.Goals as goal

pub returns-in_default : goal.returns-in_default
returns-in_default g c =
    let a = trace_question_seen c.args.question.now in
    let whole = c.args.exploration.now.is_complete in
    let es = answer_entries kept_seen c.args.exploration.now.answers.entries in
    let now = c.args.out.lines.items in
    IfOk-weaker c.put_no_run_row.result (λ v. v.lines.items ≡ now ++ json_line (answer_row (no_match_word whole))) (λ v. v.lines.items ≡ now ++ json_line (trace_row a es whole None))
    (λ v h. h ∙ ap (λ o. now ++ json_line (trace_prefix_row a whole o)) (sym (ap (option_map prefix_seen) c.in_default.is) ∙ c.in_ok-prefix.ensures ∙ ap (λ ms. longest_prefix (map tree_of ms) es (length (map tree_of ms))) c.deref.ensures.value))
    c.put_no_run_row.ensures

pub returns : goal.returns
returns g c =
    let a = trace_question_seen c.args.question.now in
    let f = prefix_seen c.in-Some.prefix in
    let whole = c.args.exploration.now.is_complete in
    let es = answer_entries kept_seen c.args.exploration.now.answers.entries in
    let now = c.args.out.lines.items in
    IfOk-weaker c.put_prefix_row.result (λ v. v.lines.items ≡ now ++ json_line (prefix_row a whole f (slice_get a.messages f.count))) (λ v. v.lines.items ≡ now ++ json_line (trace_row a es whole None))
    (λ v h. h ∙ ap (λ o. now ++ json_line (trace_prefix_row a whole o)) (sym (ap (option_map prefix_seen) c.in-Some.is) ∙ c.in_ok-prefix.ensures ∙ ap (λ ms. longest_prefix (map tree_of ms) es (length (map tree_of ms))) c.deref.ensures.value))
    c.put_prefix_row.ensures
