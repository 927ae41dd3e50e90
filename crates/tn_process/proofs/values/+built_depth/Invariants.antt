use Rattle.std.proofs.Common.{◌≡◌, ◌<◌, ◌-◌, ◌^◌, min, max, drop}
use Rattle.def_term.specs.Tree.{greatest_depth}
use Rattle.def_node.specs.Values.{all_built}
use Rattle.tn_term.specs.Views.{trees_of}
use Rattle.tn_process.specs.Views.{env_of}
use Rattle.tn_process.proofs.values.+built_depth.Given as goal

abbrev pub invariant-built_depths-loop-template : goal.invariant-built_depths-loop-template
invariant-built_depths-loop-template g l = record {
  fits : l.greatest < 2 ^ 64;
  rest : min (max l.greatest (greatest_depth (all_built (env_of l.env) (trees_of (drop l.template-index l.template-items))))) (2 ^ 64 - 1) ≡ min (greatest_depth (all_built (env_of l.env) (trees_of l.templates.items))) (2 ^ 64 - 1);
}
