use Rattle.std.proofs.Common.{◌≡◌, map, take, drop}
use Rattle.def_node.specs.Values.{instance_of, all_fit}
use Rattle.tn_term.specs.SharedTree.{shared_tree}
use Rattle.tn_term.specs.Views.{tree_of}
use Rattle.tn_process.specs.Views.{env_of}
use Rattle.tn_process.proofs.env.Env.fit_all_shared.Given as goal

abbrev pub invariant-loop-template : goal.invariant-loop-template
invariant-loop-template g l = record {
  built : map shared_tree l.terms.items ≡ map (λ t. instance_of (env_of l.self) (tree_of t)) (take l.template-index l.template-items);
  rest : all_fit (map (λ t. instance_of (env_of l.self) (tree_of t)) (drop l.template-index l.template-items)) ≡ all_fit (map (λ t. instance_of (env_of l.self) (tree_of t)) l.templates.items);
}
