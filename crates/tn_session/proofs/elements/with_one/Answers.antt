use Rattle.tn_term.specs.Views.{tree_of}
use Rattle.tn_session.proofs.Longer.{one_more}
use Rattle.tn_session.proofs.elements.with_one.Goals as goal

pub returns : goal.returns
returns g c = one_more tree_of _ _ c.args.detail _ c.in_ok-push.ensures.items c.in_ok-items.ensures
