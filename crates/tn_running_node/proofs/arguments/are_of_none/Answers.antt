use Rattle.std.proofs.Common.{◌∙◌, arith}
use Rattle.tn_running_node.proofs.FunctionArguments.{not_three, of_three}
use Rattle.tn_running_node.proofs.arguments.are_of_none.Goals as goal

pub returns-then-len-ne3 : goal.returns-then-len-ne3
returns-then-len-ne3 g c = let stored = c.args.items.now.ok.0 in not_three c.args.items.now.items (λ e. c.if-len-ne3.true (omega (arith, e)))

pub returns : goal.returns
returns g c =
    let stored = c.args.items.now.ok.0 in
    c.is_of_none.ensures ∙ of_three c.args.items.now.items c.index.result.now c.index-2.result.now c.index-3.result.now (omega arith) c.index.ensures c.index-2.ensures c.index-3.ensures
