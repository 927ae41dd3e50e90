use Rattle.std.proofs.Common.{ap, arith}
use Rattle.def_term.specs.Tree.{greatest_depth}
use Rattle.def_node.specs.Values.{all_built}
use Rattle.tn_term.specs.Views.{tree_of}
use Rattle.tn_term.proofs.Trees.{here}
use Rattle.tn_process.specs.Views.{env_of}
use Rattle.tn_process.proofs.values.+built_depth.Goals as goal

pub built_depths-loop-template-preserved : goal.built_depths-loop-template-preserved
built_depths-loop-template-preserved g t c =
    let e = env_of c.args.env.now in
    let xs = c.deref-template-items.result.now in
    let next = ap (λ ts. greatest_depth (all_built e ts)) (here tree_of xs c.loop-template.template-index c.template-item.result (omega arith) c.template-item.is) in
    record { fits = omega arith; rest = omega arith }
