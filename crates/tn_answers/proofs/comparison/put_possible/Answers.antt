use Rattle.std.proofs.Common.{◌∙◌, ◌++◌, ◌∷◌, [], ap, codes, flat_map, map}
use Rattle.def_compare.specs.Output.{pair_line}
use Rattle.def_explore.specs.Output.{spaced_picks}
use Rattle.tn_renaming.specs.Pairs.{pair_seen}
use Rattle.tn_answers.proofs.Parts.{before_rest}
use Rattle.tn_answers.proofs.FirstJournals.{seen_parts}
use Rattle.tn_answers.proofs.comparison.put_possible.Goals as goal

pub returns : goal.returns
returns g c =
    let o0 = c.args.out.now.items in
    let o1 = c.extend_from_slice.new.self.items in
    let o2 = c.put_picks.new.out.items in
    let o3 = c.push.new.self.items in
    let o4 = c.put_pairs.new.out.items in
    let picks = spaced_picks c.args.found.now.journal.now in
    let pairs = flat_map pair_line (map pair_seen c.args.found.now.pairs.items) in
    let last = c.in_ok-put_pairs.ensures ∙ ap (λ x. o3 ++ x) (seen_parts pair_line pair_seen c.deref.result.now ∙ ap (λ ps. flat_map pair_line (map pair_seen ps)) c.deref.ensures.value) in
    before_rest o0 (codes "possible: journal") o1 (picks ++ 10 ∷ pairs) o4 c.in_ok-extend_from_slice.ensures.items
    (before_rest o1 picks o2 (10 ∷ pairs) o4 c.in_ok-put_picks.ensures (before_rest o2 (10 ∷ []) o3 pairs o4 c.in_ok-push.ensures.items last))
