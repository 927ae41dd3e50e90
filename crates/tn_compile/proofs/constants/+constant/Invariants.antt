use Rattle.std.proofs.Common.{◌≡◌, drop, is_some}
use Rattle.def_machine.specs.HeadFolds.{constants_in}
use Rattle.tn_spec.specs.Views.{patterns_seen}
use Rattle.tn_compile.proofs.constants.+constant.Given as goal

abbrev pub invariant-are_constant-loop-index : goal.invariant-are_constant-loop-index
invariant-are_constant-loop-index g l = is_some (constants_in (patterns_seen (drop l.index l.patterns.items))) ≡ is_some (constants_in (patterns_seen l.patterns.items))
