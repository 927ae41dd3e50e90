use Rattle.std.proofs.lemmas.Result.{IfOk-weaker}
use Rattle.tn_line.proofs.Names.{expectation_more}
use Rattle.tn_line.proofs.commands.with_expectation.Goals as goal

pub returns : goal.returns
returns c =
    IfOk-weaker c.arg-7.result _ _
    (λ new added. expectation_more c.args.command c.in_ok-arg.field-0 c.in_ok-arg-2.field-0 c.in_ok-arg-3.field-0 c.in_ok-arg-4.field-0 c.in_ok-arg-5.field-0 c.in_ok-arg-6.field-0 new
    c.expect.result c.expect_line.result c.reject_line.result c.strict.result c.max_output.result c.max_memory.result c.output.result
    c.expect.ensures.0 c.expect_line.ensures.0 c.reject_line.ensures.0 c.strict.ensures.0 c.max_output.ensures.named.0 c.max_memory.ensures.named.0 c.output.ensures.0
    c.in_ok-arg.ensures c.in_ok-arg-2.ensures c.in_ok-arg-3.ensures c.in_ok-arg-4.ensures c.in_ok-arg-5.ensures c.in_ok-arg-6.ensures added)
    c.arg-7.ensures
