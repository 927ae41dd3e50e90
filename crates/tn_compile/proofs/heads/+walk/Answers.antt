use Rattle.std.proofs.Common.{◌≡◌, suc, ◌+◌, ◌≤◌, ◌∷◌, [], length, ◌++◌, ◌∙◌, sym, ap, arith, drop}
use Rattle.std.proofs.lemmas.List.{map-append}
use Rattle.def_machine.specs.Compilation.{number_of_patterns, registers_taken, registers_taken_each}
use Rattle.def_machine.specs.Instructions.{take_element}
use Rattle.def_machine.specs.HeadFolds.{fold_head, folded_each}
use Rattle.tn_code.specs.Views.{instruction_of, instructions_of}
use Rattle.tn_spec.specs.Views.{pattern_seen, patterns_seen}
use Rattle.tn_compile.specs.Views.{variables_seen}
use Rattle.tn_compile.specs.Heads.{pattern_steps}
use Rattle.tn_compile.proofs.Alone.{folded-parts}
use Rattle.tn_compile.proofs.Walks.{patterns_here, patterns_past, patterns-counted, parts-walked, steps-done, steps-more, variables-more}
use Rattle.tn_compile.proofs.heads.+walk.Goals as goal

pub walk_each-overflow_add-head : goal.walk_each-overflow_add-head
walk_each-overflow_add-head g t c =
    let size = c.len-index-end.ensures ∙ c.args.patterns.now.ok.0 in
    let here = ap folded_each (patterns_here c.args.patterns.now.items c.loop-index.index c.index-pattern.result.now (omega (arith, size)) c.index-pattern.ensures) in
    let taken : registers_taken_each (folded_each (patterns_seen (drop c.loop-index.index c.args.patterns.now.items))) ≡ suc (registers_taken (fold_head (pattern_seen c.index-pattern.result.now))) + registers_taken_each (folded_each (patterns_seen (drop (c.loop-index.index + 1) c.args.patterns.now.items))) = ap registers_taken_each here in
    omega (arith, taken, c.requires.room, c.loop-index.invariant.free)

pub walk_each-loop-index-preserved : goal.walk_each-loop-index-preserved
walk_each-loop-index-preserved g t c =
    let size = c.len-index-end.ensures ∙ c.args.patterns.now.ok.0 in
    let ps = c.args.patterns.now.items in
    let p = fold_head (pattern_seen c.index-pattern.result.now) in
    let here = ap folded_each (patterns_here ps c.loop-index.index c.index-pattern.result.now (omega (arith, size)) c.index-pattern.ensures) in
    let taken : registers_taken_each (folded_each (patterns_seen (drop c.loop-index.index c.args.patterns.now.items))) ≡ suc (registers_taken (fold_head (pattern_seen c.index-pattern.result.now))) + registers_taken_each (folded_each (patterns_seen (drop (c.loop-index.index + 1) c.args.patterns.now.items))) = ap registers_taken_each here in
    let pushed : instructions_of c.push.new.self.items ≡ instructions_of c.loop-index.head.steps.items ++ take_element c.loop-index.head.free c.args.register c.loop-index.index 0 ∷ [] =
    ap instructions_of c.in_ok-push.ensures.items ∙ map-append instruction_of c.loop-index.head.steps.items (_ ∷ []) in
    record {
      steps = steps-more _ (instructions_of c.loop-index.head.steps.items) (instructions_of c.push.new.self.items) (instructions_of c.walk.new.head.steps.items) (folded_each (patterns_seen (drop c.loop-index.index ps))) (folded_each (patterns_seen (drop (c.loop-index.index + 1) ps))) p (variables_seen c.loop-index.head.variables.items) (variables_seen c.walk.new.head.variables.items) c.args.register c.loop-index.index c.loop-index.head.free c.walk.new.head.free
          here pushed c.in_ok-walk.ensures.steps c.in_ok-walk.ensures.variables c.in_ok-walk.ensures.free c.loop-index.invariant.steps;
      variables = variables-more _ (variables_seen c.loop-index.head.variables.items) (variables_seen c.walk.new.head.variables.items) (folded_each (patterns_seen (drop c.loop-index.index ps))) (folded_each (patterns_seen (drop (c.loop-index.index + 1) ps))) p c.loop-index.head.free c.walk.new.head.free
          here c.in_ok-walk.ensures.variables c.in_ok-walk.ensures.free c.loop-index.invariant.variables;
      free = omega (arith, taken, c.in_ok-walk.ensures.free, c.loop-index.invariant.free);
    }

pub walk_each-returns-clause-steps : goal.walk_each-returns-clause-steps
walk_each-returns-clause-steps g t c =
    let ps = c.args.patterns.now.items in
    let ended : length ps ≡ c.len-index-end.result = sym (c.len-index-end.ensures ∙ c.args.patterns.now.ok.0) in
    let past : length ps ≤ c.loop-index.index = omega (arith, ended, c.loop-index-test.false) in
    steps-done _ (instructions_of c.loop-index.head.steps.items) (folded_each (patterns_seen (drop c.loop-index.index ps))) (variables_seen c.loop-index.head.variables.items) c.args.register c.loop-index.index c.loop-index.head.free
    (ap folded_each (patterns_past ps c.loop-index.index past)) c.loop-index.invariant.steps

pub walk_parts-returns-in_ok-walk_each-clause-steps : goal.walk_parts-returns-in_ok-walk_each-clause-steps
walk_parts-returns-in_ok-walk_each-clause-steps g t c =
    let ps = c.args.patterns.now.items in
    let k = c.args.kind in
    let v = variables_seen c.args.head.now.variables.items in
    let before = c.args.head.now.steps.items in
    let folded = folded-parts k (patterns_seen ps) (sym c.are_constant.ensures ∙ c.if-are_constant.false) in
    let many : c.len.result ≡ number_of_patterns (folded_each (patterns_seen ps)) = c.len.ensures ∙ c.args.patterns.now.ok.0 ∙ sym (patterns-counted ps) in
    parts-walked k (folded_each (patterns_seen ps)) (instructions_of before) (instructions_of c.push.new.self.items) (instructions_of c.push-else-are_constant.new.self.items) (instructions_of c.walk_each.new.head.steps.items) v c.args.register c.len.result c.args.head.now.free many
    (ap instructions_of c.in_ok-push.ensures.items ∙ map-append instruction_of before (_ ∷ []))
    (ap instructions_of c.in_ok-push-2.ensures.items ∙ map-append instruction_of c.push.new.self.items (_ ∷ []))
    c.in_ok-walk_each.ensures.steps
    ∙ sym (ap (λ p. instructions_of before ++ pattern_steps p v c.args.register c.args.head.now.free) folded)
