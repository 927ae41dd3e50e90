use Rattle.tn_messages.proofs.Equal.{test_is, trees_test}
use Rattle.tn_messages.proofs.list.same_messages.Goals as goal

pub returns : goal.returns
returns g c = test_is _ _ trees_test c.args.one.now c.args.other.now c.eq.result c.eq.ensures
