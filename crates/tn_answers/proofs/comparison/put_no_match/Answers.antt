use Rattle.std.proofs.Common.{◌∙◌, ◌++◌, ap, sym, codes, map, length}
use Rattle.std.specs.Option.{option_map}
use Rattle.def_compare.specs.Entries.{longest_prefix}
use Rattle.def_compare.specs.Output.{longest_prefix_text, no_match_word, trace_prefix_text}
use Rattle.tn_comparison.specs.Matches.{trace_question_seen, prefix_seen}
use Rattle.tn_explore.specs.Searches.{answer_entries}
use Rattle.tn_messages.specs.MessageViews.{kept_seen}
use Rattle.tn_term.specs.Views.{tree_of}
use Rattle.tn_answers.proofs.Parts.{before_rest}
use Rattle.tn_answers.proofs.comparison.put_no_match.Goals as goal

pub returns-in_default : goal.returns-in_default
returns-in_default g c =
    let a = trace_question_seen c.args.question.now in
    let whole = c.args.exploration.now.is_complete in
    let es = answer_entries kept_seen c.args.exploration.now.answers.entries in
    let o0 = c.args.out.now.items in
    let o1 = c.extend_from_slice.new.self.items in
    let word = c.in_ok-extend_from_slice.ensures.items ∙ ap (λ x. o0 ++ x) (c.as_bytes.ensures.value ∙ c.no_match_word.ensures) in
    before_rest o0 (no_match_word whole) o1 (codes ": no run to rest was met\n") c.extend_from_slice-in_default.new.self.items word c.in_ok-extend_from_slice-2.ensures.items
    ∙ ap (λ o. o0 ++ trace_prefix_text a whole o) (sym (ap (option_map prefix_seen) c.in_default.is) ∙ c.in_ok-prefix.ensures ∙ ap (λ ms. longest_prefix (map tree_of ms) es (length (map tree_of ms))) c.deref.ensures.value)

pub returns : goal.returns
returns g c =
    let a = trace_question_seen c.args.question.now in
    let whole = c.args.exploration.now.is_complete in
    let es = answer_entries kept_seen c.args.exploration.now.answers.entries in
    let o0 = c.args.out.now.items in
    let o1 = c.extend_from_slice.new.self.items in
    let word = c.in_ok-extend_from_slice.ensures.items ∙ ap (λ x. o0 ++ x) (c.as_bytes.ensures.value ∙ c.no_match_word.ensures) in
    before_rest o0 (no_match_word whole) o1 (longest_prefix_text a (prefix_seen c.in-Some.prefix)) c.put_longest.new.out.items word c.in_ok-put_longest.ensures
    ∙ ap (λ o. o0 ++ trace_prefix_text a whole o) (sym (ap (option_map prefix_seen) c.in-Some.is) ∙ c.in_ok-prefix.ensures ∙ ap (λ ms. longest_prefix (map tree_of ms) es (length (map tree_of ms))) c.deref.ensures.value)
