use Rattle.tn_term.specs.Views.{tree_of}
use Rattle.tn_session.proofs.Longer.{two_more}
use Rattle.tn_session.proofs.elements.with_two.Goals as goal

pub returns : goal.returns
returns g c = two_more tree_of _ _ _ c.args.detail c.args.other _ c.in_ok-push.ensures.items c.in_ok-push-2.ensures.items c.in_ok-items.ensures
