use Rattle.std.proofs.Common.{◌∙◌, ◌++◌, ◌∷◌, [], ℕ, ap, sym, codes, map, length, flat_map, decimal}
use Rattle.std.proofs.lemmas.List.{length-map}
use Rattle.std.specs.Prelude.{slice_get}
use Rattle.def_compare.specs.Output.{trace_difference_text, pair_line}
use Rattle.def_explore.specs.Output.{exploration_end_text, spaced_picks}
use Rattle.tn_comparison.specs.Matches.{trace_question_seen, prefix_seen}
use Rattle.tn_renaming.specs.Pairs.{pair_seen}
use Rattle.tn_term.specs.Views.{tree_of}
use Rattle.tn_answers.proofs.Parts.{before_rest}
use Rattle.tn_answers.proofs.FirstJournals.{seen_parts}
use Rattle.tn_answers.proofs.comparison.put_longest.Goals as goal

pub returns : goal.returns
returns g c =
    let a = trace_question_seen c.args.question.now in
    let f = prefix_seen c.args.prefix.now in
    let o0 = c.args.out.now.items in
    let o1 = c.extend_from_slice.new.self.items in
    let o2 = c.write_decimal.new.out.items in
    let o3 = c.extend_from_slice-2.new.self.items in
    let o4 = c.put_counted.new.out.items in
    let o5 = c.extend_from_slice-3.new.self.items in
    let o6 = c.put_picks.new.out.items in
    let o7 = c.push.new.self.items in
    let o8 = c.put_pairs.new.out.items in
    let o9 = c.put_difference.new.out.items in
    let rest = trace_difference_text a f (slice_get a.messages f.count) in
    let pairs = flat_map pair_line f.by.pairs in
    let picks = spaced_picks f.by.entry.journal in
    let count = exploration_end_text (length a.messages) (codes "message") in
    let t2 = codes ": the longest prefix is " ++ decimal f.count in
    let t3 = t2 ++ codes " of " in
    let t4 = t3 ++ count in
    let t5 = t4 ++ codes ": journal" in
    let many = c.in_ok-put_counted.ensures ∙ ap (λ (n : ℕ). o3 ++ exploration_end_text n (codes "message")) (ap length c.as_slice.ensures.value ∙ sym (length-map c.args.question.now.messages.items tree_of)) in
    let seen = c.in_ok-put_pairs.ensures ∙ ap (λ x. o7 ++ x) (seen_parts pair_line pair_seen c.deref.result.now ∙ ap (λ ps. flat_map pair_line (map pair_seen ps)) c.deref.ensures.value) in
    let s2 = before_rest o0 (codes ": the longest prefix is ") o1 (decimal f.count) o2 c.in_ok-extend_from_slice.ensures.items c.in_ok-write_decimal.ensures.ok in
    let s3 = before_rest o0 t2 o2 (codes " of ") o3 s2 c.in_ok-extend_from_slice-2.ensures.items in
    let s4 = before_rest o0 t3 o3 count o4 s3 many in
    let s5 = before_rest o0 t4 o4 (codes ": journal") o5 s4 c.in_ok-extend_from_slice-3.ensures.items in
    let s6 = before_rest o0 t5 o5 picks o6 s5 c.in_ok-put_picks.ensures in
    let s8 = before_rest o0 (t5 ++ picks) o6 (10 ∷ pairs) o8 s6 (before_rest o6 (10 ∷ []) o7 pairs o8 c.in_ok-push.ensures.items seen) in
    before_rest o0 (t5 ++ picks ++ 10 ∷ pairs) o8 rest o9 s8 c.in_ok-put_difference.ensures
