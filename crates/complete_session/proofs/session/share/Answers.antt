use Rattle.tn_session.specs.Sessions.{value_in}
use Rattle.complete_session.proofs.Same.{same_where_both}
use Rattle.complete_session.proofs.session.share.Goals as goal

pub returns : goal.returns
returns g c = same_where_both value_in _ _ c.requires _ _ c.share.ensures c.share-2.ensures
