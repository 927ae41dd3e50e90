use Rattle.tn_trace.proofs.Starts.{visible_more}
use Rattle.tn_trace.proofs.functions.visible_functions.Goals as goal

pub loop-function-preserved : goal.loop-function-preserved
loop-function-preserved g c = visible_more c.args.functions.now c.loop-function.function-index c.function-item.result c.in_ok-mfa.mfa c.loop-function.seen.items _ c.loop-function-test.true c.function-item.is c.loop-function.invariant c.in_ok-mfa.ensures c.in_ok-push.ensures.items
