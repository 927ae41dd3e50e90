use Rattle.std.proofs.Common.{◌≡◌, ◌+◌, ◌++◌, drop}
use Rattle.def_machine.specs.Compilation.{registers_taken_each, variables_after_each}
use Rattle.def_machine.specs.HeadFolds.{folded_each}
use Rattle.tn_code.specs.Views.{instructions_of}
use Rattle.tn_spec.specs.Views.{patterns_seen}
use Rattle.tn_compile.specs.Heads.{each_steps}
use Rattle.tn_compile.specs.Views.{variables_seen}
use Rattle.tn_compile.proofs.heads.+walk.Given as goal

abbrev pub invariant-walk_each-loop-index : goal.invariant-walk_each-loop-index
invariant-walk_each-loop-index g l = record {
  steps : instructions_of l.head.steps.items ++ each_steps (folded_each (patterns_seen (drop l.index l.patterns.items))) (variables_seen l.head.variables.items) l.register l.index l.head.free
      ≡ instructions_of l.initial.head.steps.items ++ each_steps (folded_each (patterns_seen l.patterns.items)) (variables_seen l.initial.head.variables.items) l.register 0 l.initial.head.free;
  variables : variables_after_each (folded_each (patterns_seen (drop l.index l.patterns.items))) (variables_seen l.head.variables.items) l.head.free
      ≡ variables_after_each (folded_each (patterns_seen l.patterns.items)) (variables_seen l.initial.head.variables.items) l.initial.head.free;
  free : l.head.free + registers_taken_each (folded_each (patterns_seen (drop l.index l.patterns.items))) ≡ l.initial.head.free + registers_taken_each (folded_each (patterns_seen l.patterns.items));
}
