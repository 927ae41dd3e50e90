use Rattle.std.proofs.Common.{◌∙◌, arith}
use Rattle.tn_trap.proofs.Firsts.{neither_last}
use Rattle.tn_trap.proofs.arguments.no_flag_last.Goals as goal

pub returns : goal.returns
returns g c =
    let one = c.len.ensures ∙ c.args.arguments.now.ok.0 in
    let two = c.len-2.ensures ∙ c.args.arguments.now.ok.0 in
    neither_last c.args.arguments.now.items (λ e. c.if-len-eq1.false (omega (arith, one, e))) (λ e. c.if-len-eq2.false (omega (arith, two, e)))
