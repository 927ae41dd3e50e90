use Rattle.std.proofs.Common.{◌≡◌, ◌∙◌, sym, ap, arith, map, Some, None, if◌then◌else◌}
use Rattle.def_spec.specs.Matching.{bind_on, bind_each}
use Rattle.tn_spec.specs.Views.{pattern_seen, patterns_seen}
use Rattle.tn_guard.specs.Views.{value_seen, list_view_seen}
use Rattle.tn_guard.proofs.Places.{rest_of_all}
use Rattle.tn_head.specs.Views.{binding_seen}
use Rattle.tn_head.proofs.Walk.{of_two_lengths, each_here, each_past}
use Rattle.tn_head.proofs.matching.+bind.Goals as goal

pub bind_each-returns-then-len : goal.bind_each-returns-then-len
bind_each-returns-then-len g t c =
    let patterns = c.len.ensures ∙ c.args.patterns.now.ok.0 in
    of_two_lengths c.args.patterns.now.items (list_view_seen c.args.parts) _ (λ e. c.if-len.true (patterns ∙ e ∙ sym c.len-2.ensures.counted))

pub bind_each-loop-i-init : goal.bind_each-loop-i-init
bind_each-loop-i-init g t c =
    let patterns = c.len.ensures ∙ c.args.patterns.now.ok.0 in
    record {
      lengths = sym patterns ∙ c.if-len.false ∙ c.len-2.ensures.counted;
      rest = ap (λ ts. bind_each (patterns_seen c.args.patterns.now.items) ts (map binding_seen c.args.bound.now.items)) (rest_of_all (list_view_seen c.args.parts));
    }

pub bind_each-returns-then-not-branch : goal.bind_each-returns-then-not-branch
bind_each-returns-then-not-branch g t c =
    let ps = c.args.patterns.now in
    let size = c.len-i-end.ensures ∙ ps.ok.0 in
    let met : bind_on (pattern_seen c.index.result.now) (value_seen c.at.result) (map binding_seen c.loop-i.bound.items) ≡ None =
    c.in_ok-bind_on.ensures ∙ ap (λ x. if x then Some (map binding_seen c.bind_on.new.bound.items) else None) c.if-not-branch.true in
    sym c.loop-i.invariant.rest
    ∙ each_here ps.items (list_view_seen c.args.parts) c.loop-i.i c.index.result.now (value_seen c.at.result) (map binding_seen c.loop-i.bound.items) None
    (omega (arith, size)) c.index.ensures c.at.ensures met

pub bind_each-loop-i-preserved : goal.bind_each-loop-i-preserved
bind_each-loop-i-preserved g t c =
    let ps = c.args.patterns.now in
    let size = c.len-i-end.ensures ∙ ps.ok.0 in
    let met : bind_on (pattern_seen c.index.result.now) (value_seen c.at.result) (map binding_seen c.loop-i.bound.items) ≡ Some (map binding_seen c.bind_on.new.bound.items) =
    c.in_ok-bind_on.ensures ∙ ap (λ x. if x then Some (map binding_seen c.bind_on.new.bound.items) else None) c.if-not-branch.false in
    record {
      lengths = c.loop-i.invariant.lengths;
      rest = sym (each_here ps.items (list_view_seen c.args.parts) c.loop-i.i c.index.result.now (value_seen c.at.result) (map binding_seen c.loop-i.bound.items) _
          (omega (arith, size)) c.index.ensures c.at.ensures met) ∙ c.loop-i.invariant.rest;
    }

pub bind_each-returns : goal.bind_each-returns
bind_each-returns g t c =
    let ps = c.args.patterns.now in
    let size = c.len-i-end.ensures ∙ ps.ok.0 in
    sym c.loop-i.invariant.rest ∙ each_past ps.items (list_view_seen c.args.parts) c.loop-i.i (map binding_seen c.loop-i.bound.items) (omega (arith, size)) (omega (arith, size, c.loop-i.invariant.lengths))
