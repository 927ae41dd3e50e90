use Rattle.tn_messages.proofs.Equal.{test_is, shared_test}
use Rattle.tn_messages.proofs.shared_list.same_lists.Goals as goal

pub returns : goal.returns
returns g c = test_is _ _ shared_test c.args.one.now c.args.other.now c.eq.result c.eq.ensures
