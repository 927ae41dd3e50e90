use Rattle.tn_running_node.proofs.Pairs.{determined_no_more, determined_still}
use Rattle.tn_running_node.proofs.pair.SessionPair.is_determined_after.Goals as goal

pub returns-then-not-self-run_is_determined : goal.returns-then-not-self-run_is_determined
returns-then-not-self-run_is_determined g c = λ o living p h.
    determined_no_more c.args.step c.args.event.now o living p c.args.self.now h c.is_determined_after-run_is_determined.result c.is_determined_after-run_is_determined.ensures c.if-not-self-run_is_determined.true

pub returns : goal.returns
returns g c = λ o living p h.
    determined_still c.args.step c.args.event.now o living p c.args.self.now h c.is_determined_after-run_is_determined.result c.is_determined_after-run_is_determined.ensures c.in_ok-openness.openness c.if-not-self-run_is_determined.false (c.in_ok-openness.ensures o living p h)
