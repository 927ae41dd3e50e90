use Rattle.std.proofs.Common.{Some, None, if◌then◌else◌, ap}
use Rattle.tn_session.proofs.session.Session.share.Goals as goal

pub returns : goal.returns
returns g c = ap (λ v. if c.args.self.now.is_spent then None else Some v) c.in_ok-share.ensures
