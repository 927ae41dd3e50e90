use Rattle.std.proofs.Common.{◌∙◌, ◌++◌, ◌∷◌, [], ℕ, ap, sym, codes, map, take, length, refl}
use Rattle.std.proofs.lemmas.List.{take_min, take-map}
use Rattle.std.proofs.lemmas.Option.{slice_get-map, slice_get_read}
use Rattle.std.specs.Prelude.{slice_get}
use Rattle.std.specs.Option.{option_map}
use Rattle.def_term.specs.Text.{w}
use Rattle.def_compare.specs.Output.{trace_difference_text, there_line, message_there}
use Rattle.tn_comparison.specs.Matches.{trace_question_seen, prefix_seen}
use Rattle.tn_messages.specs.MessageViews.{kept_seen}
use Rattle.tn_renaming.specs.Pairs.{pair_seen, lent_term_seen}
use Rattle.tn_term.specs.Views.{tree_of}
use Rattle.tn_answers.proofs.Parts.{before_rest}
use Rattle.tn_answers.proofs.comparison.put_difference.Goals as goal

pub returns : goal.returns
returns g c =
    let a = trace_question_seen c.args.question.now in
    let f = prefix_seen c.args.prefix.now in
    let t = tree_of c.in-Some.message.now in
    let items = c.args.question.now.messages.items in
    let n = c.args.prefix.now.count in
    let o0 = c.args.out.now.items in
    let o1 = c.extend_from_slice.new.self.items in
    let o2 = c.write_term.new.out.items in
    let o3 = c.push.new.self.items in
    let o4 = c.put_there.new.out.items in
    let line = there_line (option_map lent_term_seen c.in_ok-there.there) in
    let ts = c.as_slice-messages.result.now in
    let is = c.as_slice-messages.ensures.value in
    let pairs = ap (map pair_seen) c.deref.ensures.value in
    let few = ap (λ (k : ℕ). take k ts) c.min.ensures ∙ take_min n ts ∙ ap (take n) is in
    let before = ap (map tree_of) few ∙ sym (take-map tree_of n items) in
    let there = c.in_ok-there.ensures ∙ (λ i. message_there (kept_seen c.args.prefix.now.by.kept.now) (pairs i) (before i) t) in
    let read = slice_get_read ts (length ts) n c.in-Some.message.now refl c.in-Some.ensures.lookup.3.0 c.in-Some.ensures.lookup.1 in
    let got = slice_get-map tree_of items n ∙ ap (λ xs. option_map tree_of (slice_get xs n)) (sym is) ∙ ap (option_map tree_of) read in
    before_rest o0 (codes "not there: ") o1 (w t ++ 10 ∷ line) o4 c.in_ok-extend_from_slice.ensures.items
    (before_rest o1 (w t) o2 (10 ∷ line) o4 c.in_ok-write_term.ensures.ok (before_rest o2 (10 ∷ []) o3 line o4 c.in_ok-push.ensures.items c.in_ok-put_there.ensures))
    ∙ ap (λ o. o0 ++ (codes "not there: " ++ (w t ++ 10 ∷ there_line o))) there
    ∙ ap (λ o. o0 ++ trace_difference_text a f o) (sym got)
