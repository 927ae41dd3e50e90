use Rattle.std.proofs.Common.{◌≡◌, ◌∙◌, sym, ap, arith, [], map, Some, None}
use Rattle.def_spec.specs.Matching.{in_tuple, in_list, bind_on, bind_each}
use Rattle.def_explain.specs.Mismatches.{is_tuple_of, is_list_of, mismatch, pattern_count, in_element, mismatch_on, mismatch_in}
use Rattle.tn_spec.specs.Views.{pattern_seen, patterns_seen}
use Rattle.tn_guard.specs.Views.{value_seen, list_view_seen, tuple_trees, list_trees}
use Rattle.tn_guard.proofs.Places.{rest_of_all}
use Rattle.tn_head.specs.Views.{binding_seen}
use Rattle.tn_head.proofs.Walk.{each_here, each_past}
use Rattle.tn_mismatch.specs.Walks.{of_length}
use Rattle.tn_mismatch.proofs.Steps.{here_differs, here_matches, past_all, count_patterns, pattern_of_tuple, pattern_of_list, tuple_differs, tuple_binds, no_tuple, list_differs, list_binds, no_list, walk_of, walk_some, walk_none}
use Rattle.tn_mismatch.proofs.walk.+mismatch.Goals as goal

pub mismatch_in-loop-i-init : goal.mismatch_in-loop-i-init
mismatch_in-loop-i-init g t c = record {
  lengths = c.requires;
  rest = ap (λ ts. mismatch_in 0 (patterns_seen c.args.patterns.now.items) ts (map binding_seen c.args.bound.now.items)) (rest_of_all (list_view_seen c.args.parts));
  bound = ap (λ ts. bind_each (patterns_seen c.args.patterns.now.items) ts (map binding_seen c.args.bound.now.items)) (rest_of_all (list_view_seen c.args.parts));
}

pub mismatch_in-returns-in-Some : goal.mismatch_in-returns-in-Some
mismatch_in-returns-in-Some g t c =
    let ps = c.args.patterns.now in
    let size = c.len-i-end.ensures ∙ ps.ok.0 in
    sym c.loop-i.invariant.rest
    ∙ here_differs ps.items (list_view_seen c.args.parts) c.loop-i.i c.index.result.now (value_seen c.at.result) (map binding_seen c.loop-i.bound.items) _
    (omega (arith, size)) c.index.ensures c.at.ensures (walk_some _ _ _ _ _ c.in-Some.is c.in_ok-mismatch.ensures)
    ∙ ap Some (sym c.in_ok-in_element.ensures)

pub mismatch_in-loop-i-preserved : goal.mismatch_in-loop-i-preserved
mismatch_in-loop-i-preserved g t c =
    let ps = c.args.patterns.now in
    let size = c.len-i-end.ensures ∙ ps.ok.0 in
    let matched : (mismatch_on (pattern_seen c.index.result.now) (value_seen c.at.result) (map binding_seen c.loop-i.bound.items) ≡ None) × (bind_on (pattern_seen c.index.result.now) (value_seen c.at.result) (map binding_seen c.loop-i.bound.items) ≡ Some (map binding_seen c.mismatch_on.new.bound.items)) =
    walk_none _ _ _ _ c.in_default.is c.in_ok-mismatch.ensures in
    record {
      lengths = c.loop-i.invariant.lengths;
      rest = sym (here_matches ps.items (list_view_seen c.args.parts) c.loop-i.i c.index.result.now (value_seen c.at.result) (map binding_seen c.loop-i.bound.items) _
          (omega (arith, size)) c.index.ensures c.at.ensures matched.0 matched.1) ∙ c.loop-i.invariant.rest;
      bound = sym (each_here ps.items (list_view_seen c.args.parts) c.loop-i.i c.index.result.now (value_seen c.at.result) (map binding_seen c.loop-i.bound.items) _
          (omega (arith, size)) c.index.ensures c.at.ensures matched.1) ∙ c.loop-i.invariant.bound;
    }

pub mismatch_in-returns : goal.mismatch_in-returns
mismatch_in-returns g t c =
    let ps = c.args.patterns.now in
    let size = c.len-i-end.ensures ∙ ps.ok.0 in (
      sym c.loop-i.invariant.rest ∙ past_all ps.items (list_view_seen c.args.parts) c.loop-i.i (map binding_seen c.loop-i.bound.items) (omega (arith, size)),
      sym c.loop-i.invariant.bound ∙ each_past ps.items (list_view_seen c.args.parts) c.loop-i.i (map binding_seen c.loop-i.bound.items) (omega (arith, size)) (omega (arith, size, c.loop-i.invariant.lengths)),
    )

pub mismatch_on-returns-in_ok-mismatch_in-in-Some : goal.mismatch_on-returns-in_ok-mismatch_in-in-Some
mismatch_on-returns-in_ok-mismatch_in-in-Some g t c =
    let ps = c.in-Tuple.patterns in
    let v = value_seen c.args.value in
    let b = map binding_seen c.args.bound.now.items in
    let ts = list_view_seen c.in-Some.parts in
    let is : pattern_seen c.args.pattern.now ≡ in_tuple (patterns_seen ps.items) = ap pattern_seen c.in-Tuple.is ∙ pattern_of_tuple ps in
    let has : Some ts ≡ of_length (pattern_count (patterns_seen ps.items)) (tuple_trees v) =
    c.in-Some.ensures ∙ ap (of_length c.len.result) c.tuple_parts.ensures ∙ ap (λ n. of_length n (tuple_trees v)) (c.len.ensures ∙ ps.ok.0 ∙ sym (count_patterns ps.items)) in
    walk_of _ _ _ _ _ _ (ap (λ q. mismatch_on q v b) is ∙ tuple_differs (patterns_seen ps.items) v ts b has)
    (ap (λ q. bind_on q v b) is ∙ tuple_binds (patterns_seen ps.items) v ts b _ has) c.in_ok-mismatch_in-in-Some.ensures

pub mismatch_on-returns-in-None : goal.mismatch_on-returns-in-None
mismatch_on-returns-in-None g t c =
    let ps = c.in-Tuple.patterns in
    let v = value_seen c.args.value in
    let b = map binding_seen c.args.bound.now.items in
    let is : pattern_seen c.args.pattern.now ≡ in_tuple (patterns_seen ps.items) = ap pattern_seen c.in-Tuple.is ∙ pattern_of_tuple ps in
    let has : None ≡ of_length (pattern_count (patterns_seen ps.items)) (tuple_trees v) =
    c.in-None.ensures ∙ ap (of_length c.len.result) c.tuple_parts.ensures ∙ ap (λ n. of_length n (tuple_trees v)) (c.len.ensures ∙ ps.ok.0 ∙ sym (count_patterns ps.items)) in
    ap (λ q. mismatch_on q v b) is ∙ no_tuple (patterns_seen ps.items) v b has
    ∙ ap (λ n. Some (mismatch [] (is_tuple_of n) v)) (count_patterns ps.items ∙ sym (c.len-in-None.ensures ∙ ps.ok.0)) ∙ ap Some (sym c.here-in-None.ensures)

pub mismatch_on-returns-in_ok-mismatch_in-in-Some-parts_of_length : goal.mismatch_on-returns-in_ok-mismatch_in-in-Some-parts_of_length
mismatch_on-returns-in_ok-mismatch_in-in-Some-parts_of_length g t c =
    let ps = c.in-List.patterns in
    let v = value_seen c.args.value in
    let b = map binding_seen c.args.bound.now.items in
    let ts = list_view_seen c.in-Some-parts_of_length.parts in
    let is : pattern_seen c.args.pattern.now ≡ in_list (patterns_seen ps.items) = ap pattern_seen c.in-List.is ∙ pattern_of_list ps in
    let has : Some ts ≡ of_length (pattern_count (patterns_seen ps.items)) (list_trees v) =
    c.in-Some-parts_of_length.ensures ∙ ap (of_length c.len-in-List.result) c.list_parts.ensures ∙ ap (λ n. of_length n (list_trees v)) (c.len-in-List.ensures ∙ ps.ok.0 ∙ sym (count_patterns ps.items)) in
    walk_of _ _ _ _ _ _ (ap (λ q. mismatch_on q v b) is ∙ list_differs (patterns_seen ps.items) v ts b has)
    (ap (λ q. bind_on q v b) is ∙ list_binds (patterns_seen ps.items) v ts b _ has) c.in_ok-mismatch_in-in-Some-parts_of_length.ensures

pub mismatch_on-returns-in-None-parts_of_length : goal.mismatch_on-returns-in-None-parts_of_length
mismatch_on-returns-in-None-parts_of_length g t c =
    let ps = c.in-List.patterns in
    let v = value_seen c.args.value in
    let b = map binding_seen c.args.bound.now.items in
    let is : pattern_seen c.args.pattern.now ≡ in_list (patterns_seen ps.items) = ap pattern_seen c.in-List.is ∙ pattern_of_list ps in
    let has : None ≡ of_length (pattern_count (patterns_seen ps.items)) (list_trees v) =
    c.in-None-parts_of_length.ensures ∙ ap (of_length c.len-in-List.result) c.list_parts.ensures ∙ ap (λ n. of_length n (list_trees v)) (c.len-in-List.ensures ∙ ps.ok.0 ∙ sym (count_patterns ps.items)) in
    ap (λ q. mismatch_on q v b) is ∙ no_list (patterns_seen ps.items) v b has
    ∙ ap (λ n. Some (mismatch [] (is_list_of n) v)) (count_patterns ps.items ∙ sym (c.len-in-None-parts_of_length.ensures ∙ ps.ok.0)) ∙ ap Some (sym c.here-in-None-parts_of_length.ensures)
