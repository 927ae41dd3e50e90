use Rattle.std.proofs.Common.{rules, ◌≡◌, true, is_some, ◌+◌, ◌∷◌, [], ◌∙◌, Some, ap, sym, arith, drop, map, option_map}
use Rattle.std.proofs.lemmas.List.{map-append, drop_all}
use Rattle.def_spec.specs.Laws.{trees_before}
use Rattle.def_machine.specs.HeadFolds.{constant_in, constants_in}
use Rattle.tn_term.specs.Views.{tree_of}
use Rattle.tn_spec.specs.declared.pattern.Pattern as pattern
use Rattle.tn_spec.specs.Views.{pattern_seen, patterns_seen}
use Rattle.tn_compile.proofs.Alone.{constant-here, constants-more, before-none}
use Rattle.tn_compile.proofs.Walks.{patterns_here}
use Rattle.tn_compile.proofs.constants.+copy.Goals as goal

pub constants_of-loop-index-preserved : goal.constants_of-loop-index-preserved
constants_of-loop-index-preserved g t c =
    let size = c.len-index-end.ensures ∙ c.args.patterns.now.ok.0 in
    let ps = c.args.patterns.now.items in
    let us = map tree_of c.loop-index.terms.items in
    constants-more us (map tree_of c.push.new.self.items) (tree_of c.in_ok-constant_of.field-0) (patterns_seen (drop c.loop-index.index ps)) (patterns_seen (drop (c.loop-index.index + 1) ps)) (pattern_seen c.index-pattern.result.now) _
    (patterns_here ps c.loop-index.index c.index-pattern.result.now (omega (arith, size)) c.index-pattern.ensures)
    c.in_ok-constant_of.ensures
    (ap (map tree_of) c.in_ok-push.ensures.items ∙ map-append tree_of c.loop-index.terms.items (_ ∷ []))
    c.loop-index.invariant

pub constants_of-returns : goal.constants_of-returns
constants_of-returns g t c =
    let size = c.len-index-end.ensures ∙ c.args.patterns.now.ok.0 in
    let us = map tree_of c.loop-index.terms.items in
    let none_left = drop_all c.loop-index.index c.args.patterns.now.items (omega (arith, c.loop-index-test.false, size)) in
    sym c.loop-index.invariant ∙ ap (λ ps. option_map (trees_before us) (constants_in (patterns_seen ps))) none_left ∙ ap Some (before-none us)

pub constants_of-constant_of-requires : goal.constants_of-constant_of-requires
constants_of-constant_of-requires g t c κs within =
    let size = c.len-index-end.ensures ∙ c.args.patterns.now.ok.0 in
    let ps = c.args.patterns.now.items in
    let here = patterns_here ps c.loop-index.index c.index-pattern.result.now (omega (arith, size, c.loop-index-test.true)) c.index-pattern.ensures in
    let first : is_some (constant_in (pattern_seen c.index-pattern.result.now)) ≡ true =
    constant-here (map tree_of c.loop-index.terms.items) (patterns_seen (drop c.loop-index.index ps)) (patterns_seen (drop (c.loop-index.index + 1) ps)) (pattern_seen c.index-pattern.result.now) _ here c.loop-index.invariant c.requires in
    search (rules, pattern.the_lemmas)
