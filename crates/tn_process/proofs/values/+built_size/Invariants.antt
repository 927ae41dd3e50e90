use Rattle.std.proofs.Common.{◌≡◌, ◌+◌, ◌<◌, drop}
use Rattle.def_term.specs.Tree.{sum_of_sizes}
use Rattle.def_node.specs.Values.{all_built}
use Rattle.tn_term.specs.Views.{trees_of}
use Rattle.tn_process.specs.Views.{env_of}
use Rattle.tn_process.proofs.values.+built_size.Given as goal

abbrev pub invariant-built_sizes-loop-template : goal.invariant-built_sizes-loop-template
invariant-built_sizes-loop-template g l = record {
  small : l.total < 65537;
  rest : l.total + sum_of_sizes (all_built (env_of l.env) (trees_of (drop l.template-index l.template-items))) ≡ sum_of_sizes (all_built (env_of l.env) (trees_of l.templates.items));
}
