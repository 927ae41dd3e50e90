use Rattle.std.proofs.Common.{◌≡◌, ◌≤◌, length, arith, ◌∷◌, [], ◌∙◌, Some, ap, sym, map, option_map}
use Rattle.std.proofs.lemmas.List.{map-append, drop_all}
use Rattle.def_spec.specs.Laws.{trees_before}
use Rattle.def_machine.specs.ExprFolds.{constant_terms}
use Rattle.tn_term.specs.Views.{tree_of}
use Rattle.tn_spec.specs.Views.{expr_seen, exprs_seen}
use Rattle.tn_compile.proofs.Alone.{before-none}
use Rattle.tn_compile.proofs.FoldedParts.{term-here, terms-more}
use Rattle.tn_compile.proofs.folds.constant_terms.Goals as goal

pub constant_term-requires : goal.constant_term-requires
constant_term-requires g c =
    term-here (map tree_of c.loop-expr.terms.items) (exprs_seen c.loop-expr.expr-iterator.rest.items) (exprs_seen c.next.new.self.rest.items) (expr_seen c.in-Some.expr) _ (ap exprs_seen c.in-Some.ensures.steps.0) c.loop-expr.invariant c.requires

pub loop-expr-preserved : goal.loop-expr-preserved
loop-expr-preserved g c =
    terms-more (map tree_of c.loop-expr.terms.items) (map tree_of c.push.new.self.items) (tree_of c.constant_term.result) (exprs_seen c.loop-expr.expr-iterator.rest.items) (exprs_seen c.next.new.self.rest.items) (expr_seen c.in-Some.expr) _
    (ap exprs_seen c.in-Some.ensures.steps.0) c.constant_term.ensures
    (ap (map tree_of) c.in_ok-push.ensures.items ∙ map-append tree_of c.loop-expr.terms.items (_ ∷ []))
    c.loop-expr.invariant

pub returns : goal.returns
returns g c =
    let us = map tree_of c.loop-expr.terms.items in
    let empty : length c.loop-expr.expr-iterator.rest.items ≤ 0 = omega (arith, c.in-None.ensures.steps.0, c.loop-expr.expr-iterator.rest.ok.0) in
    let none_left : c.loop-expr.expr-iterator.rest.items ≡ [] = drop_all 0 c.loop-expr.expr-iterator.rest.items empty in
    sym c.loop-expr.invariant ∙ ap (λ es. option_map (trees_before us) (constant_terms (exprs_seen es))) none_left ∙ ap Some (before-none us)
