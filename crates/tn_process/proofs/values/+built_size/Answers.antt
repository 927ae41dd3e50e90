use Rattle.std.proofs.Common.{ap, arith}
use Rattle.def_term.specs.Tree.{sum_of_sizes}
use Rattle.def_node.specs.Values.{all_built}
use Rattle.tn_term.specs.Views.{tree_of}
use Rattle.tn_term.proofs.Trees.{here}
use Rattle.tn_process.specs.Views.{env_of}
use Rattle.tn_process.proofs.values.+built_size.Goals as goal

pub built_sizes-returns-then-total-ge-SIZE_END : goal.built_sizes-returns-then-total-ge-SIZE_END
built_sizes-returns-then-total-ge-SIZE_END g t c =
    let e = env_of c.args.env.now in
    let xs = c.deref-template-items.result.now in
    let next = ap (λ ts. sum_of_sizes (all_built e ts)) (here tree_of xs c.loop-template.template-index c.template-item.result (omega arith) c.template-item.is) in
    omega arith

pub built_sizes-loop-template-preserved : goal.built_sizes-loop-template-preserved
built_sizes-loop-template-preserved g t c =
    let e = env_of c.args.env.now in
    let xs = c.deref-template-items.result.now in
    let next = ap (λ ts. sum_of_sizes (all_built e ts)) (here tree_of xs c.loop-template.template-index c.template-item.result (omega arith) c.template-item.is) in
    record { small = omega arith; rest = omega arith }
