use Rattle.std.proofs.Common.{◌∙◌, ◌∷◌, ℕ, ap, sym, codes, map, take}
use Rattle.std.proofs.lemmas.List.{take_min, take-map}
use Rattle.json.specs.Token.{key}
use Rattle.json.specs.Tree.{json_tokens}
use Rattle.std.specs.Option.{option_map}
use Rattle.def_compare.specs.AnswerRows.{term_value, there_value}
use Rattle.def_compare.specs.Output.{message_there}
use Rattle.tn_messages.specs.MessageViews.{kept_seen}
use Rattle.tn_comparison.specs.Matches.{prefix_seen, trace_question_seen}
use Rattle.tn_renaming.specs.Pairs.{lent_term_seen, pair_seen}
use Rattle.tn_term.specs.Views.{tree_of}
use Rattle.tn_answers.proofs.Rows.{gains_same}
use Rattle.tn_answers.proofs.trace_rows.put_there_member.Goals as goal

pub returns : goal.returns
returns g c =
    let t = tree_of c.in-Some.message.now in
    let items = c.args.question.now.messages.items in
    let n = c.args.prefix.now.count in
    let ts = c.as_slice-messages.result.now in
    let is = c.as_slice-messages.ensures.value in
    let pairs = ap (map pair_seen) c.deref.ensures.value in
    let few = ap (λ (k : ℕ). take k ts) c.min.ensures ∙ take_min n ts ∙ ap (take n) is in
    let before = ap (map tree_of) few ∙ sym (take-map tree_of n items) in
    let there = c.in_ok-there.ensures ∙ (λ i. message_there (kept_seen c.args.prefix.now.by.kept.now) (pairs i) (before i) t) in
    gains_same _ _ _ _ (ap (λ o. key (codes "there") ∷ json_tokens (term_value o)) there ∙ ap (λ o. key (codes "there") ∷ json_tokens (there_value (trace_question_seen c.args.question.now) (prefix_seen c.args.prefix.now) (option_map lent_term_seen o))) (sym c.in-Some.is)) c.in_ok-put_term_member.ensures
