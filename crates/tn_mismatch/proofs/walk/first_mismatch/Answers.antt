use Rattle.std.proofs.Common.{◌≡◌, ◌∙◌, sym, ap, [], Some, map}
use Rattle.def_term.specs.Tree.{list, count}
use Rattle.def_explain.specs.Mismatches.{is_list_of, mismatch, pattern_count}
use Rattle.tn_spec.specs.Views.{patterns_seen}
use Rattle.tn_guard.specs.Views.{list_view_seen}
use Rattle.tn_mismatch.specs.Walks.{mismatch_among, first_mismatch_of}
use Rattle.tn_mismatch.proofs.Steps.{count_patterns, walk_seen, other_length, same_length}
use Rattle.tn_mismatch.proofs.walk.first_mismatch.Goals as goal

pub returns-then-len : goal.returns-then-len
returns-then-len g c =
    let ps = c.in-List.patterns in
    let ts = list_view_seen c.args.list in
    sym (
    ap (λ h. first_mismatch_of h c.args.list) c.in-List.is
    ∙ other_length (patterns_seen ps.items) ts (λ e. c.if-len.true (c.len.ensures ∙ ps.ok.0 ∙ sym (count_patterns ps.items) ∙ e ∙ sym c.len-in-List.ensures.counted))
    ∙ ap (λ n. Some (mismatch [] (is_list_of n) (list ts))) (count_patterns ps.items ∙ sym (c.len-then-len.ensures ∙ ps.ok.0))
    ∙ ap (λ t. Some (mismatch [] (is_list_of c.len-then-len.result) t)) (sym c.list.ensures)
    ∙ ap Some (sym c.here.ensures))

pub returns-in_ok-mismatch_in-in-List : goal.returns-in_ok-mismatch_in-in-List
returns-in_ok-mismatch_in-in-List g c =
    let ps = c.in-List.patterns in
    let ts = list_view_seen c.args.list in
    let even : pattern_count (patterns_seen ps.items) ≡ count ts =
    count_patterns ps.items ∙ sym (c.len.ensures ∙ ps.ok.0) ∙ c.if-len.false ∙ c.len-in-List.ensures.counted in
    walk_seen _ _ _ _ c.in_ok-mismatch_in-in-List.ensures
    ∙ ap (λ bs. mismatch_among ps c.args.list bs) c.new-bound.ensures.items
    ∙ sym (ap (λ h. first_mismatch_of h c.args.list) c.in-List.is ∙ same_length (patterns_seen ps.items) ts even)
