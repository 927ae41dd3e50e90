use Rattle.std.proofs.Common.{◌≡◌, map, drop}
use Rattle.def_node.specs.Values.{instance_of}
use Rattle.def_node.specs.Values.{all_fit}
use Rattle.tn_term.specs.Views.{tree_of}
use Rattle.tn_process.specs.Views.{env_of}
use Rattle.tn_process.proofs.env.Env.all_fit.Given as goal

abbrev pub invariant-loop-template : goal.invariant-loop-template
invariant-loop-template g l =
    all_fit (map (λ t. instance_of (env_of l.self) (tree_of t)) (drop l.template-index l.template-items)) ≡ all_fit (map (λ t. instance_of (env_of l.self) (tree_of t)) l.templates.items)
