use Rattle.std.proofs.Common.{◌≡◌, [], ◌∷◌, map, drop, codes}
use Rattle.def_term.specs.Tree as Tree
use Rattle.def_node.specs.Values.{params_bound}
use Rattle.tn_term.specs.SharedTree.{shared_tree}
use Rattle.tn_process.specs.Views.{env_of}
use Rattle.tn_process.proofs.env.Env.for_call.Given as goal

abbrev pub invariant-loop-param : goal.invariant-loop-param
invariant-loop-param g l =
    params_bound (env_of l.env) (drop l.param-index l.param-items) (map shared_tree l.args.items) ≡ params_bound ((codes "Self", Tree.pid l.pid) ∷ []) l.params.items (map shared_tree l.fn.args.items)
