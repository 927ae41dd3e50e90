use Rattle.std.proofs.Common.{◌≡◌, ◌+◌, ◌≤◌, max, map, take, drop}
use Rattle.def_term.specs.Tree.{sum_of_sizes, greatest_depth}
use Rattle.def_node.specs.Values.{instance_of, all_built}
use Rattle.tn_term.specs.Views.{tree_of, trees_of}
use Rattle.tn_process.specs.Views.{env_of}
use Rattle.tn_process.proofs.values.+build.Given as goal

abbrev pub invariant-build_terms-loop-template : goal.invariant-build_terms-loop-template
invariant-build_terms-loop-template g l = record {
  small : l.total ≤ l.size;
  low : l.greatest + 1 ≤ l.depth;
  built : map tree_of l.terms.items ≡ map (λ t. instance_of (env_of l.env) (tree_of t)) (take l.template-index l.template-items);
  sized : l.total + sum_of_sizes (all_built (env_of l.env) (trees_of (drop l.template-index l.template-items))) ≡ 1 + sum_of_sizes (all_built (env_of l.env) (trees_of l.templates.items));
  nested : max l.greatest (greatest_depth (all_built (env_of l.env) (trees_of (drop l.template-index l.template-items)))) ≡ greatest_depth (all_built (env_of l.env) (trees_of l.templates.items));
}
