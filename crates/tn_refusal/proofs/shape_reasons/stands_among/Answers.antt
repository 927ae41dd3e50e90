use Rattle.std.proofs.Common.{◌∙◌, ◌||◌, ◌+◌, map, drop, sym, ap, refl}
use Rattle.std.specs.List.{list_any}
use Rattle.def_term.specs.Order.{same}
use Rattle.tn_term.specs.Views.{tree_of}
use Rattle.tn_refusal.proofs.ShapeReasons.{same_so, same_not, among_next}
use Rattle.tn_refusal.proofs.shape_reasons.stands_among.Goals as goal

pub returns-then-same : goal.returns-then-same
returns-then-same g c =
    let w = tree_of c.args.wanted.now in
    let rest = list_any (λ u. same u w) (map tree_of (drop (c.loop-term.term-index + 1) c.args.terms.now)) in
    sym (c.loop-term.invariant ∙ among_next (λ u. same u w) c.args.terms.now c.loop-term.term-index c.term-item.result c.loop-term-test.true c.term-item.is ∙ ap (λ b. b || rest) (same_so _ w c.same.result c.same.ensures c.if-same.true))

pub loop-term-preserved : goal.loop-term-preserved
loop-term-preserved g c =
    let w = tree_of c.args.wanted.now in
    let rest = list_any (λ u. same u w) (map tree_of (drop (c.loop-term.term-index + 1) c.args.terms.now)) in
    c.loop-term.invariant ∙ among_next (λ u. same u w) c.args.terms.now c.loop-term.term-index c.term-item.result c.loop-term-test.true c.term-item.is ∙ ap (λ b. b || rest) (same_not _ w c.same.result _ c.same.ensures c.if-same.false refl)
