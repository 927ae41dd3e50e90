use Rattle.std.proofs.Common.{◌≡◌, drop, map, option_map}
use Rattle.def_spec.specs.Laws.{trees_before}
use Rattle.def_machine.specs.HeadFolds.{constants_in}
use Rattle.tn_term.specs.Views.{tree_of}
use Rattle.tn_spec.specs.Views.{patterns_seen}
use Rattle.tn_compile.proofs.constants.+copy.Given as goal

abbrev pub invariant-constants_of-loop-index : goal.invariant-constants_of-loop-index
invariant-constants_of-loop-index g l = option_map (trees_before (map tree_of l.terms.items)) (constants_in (patterns_seen (drop l.index l.patterns.items))) ≡ constants_in (patterns_seen l.patterns.items)
