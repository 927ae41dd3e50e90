use Rattle.tn_formats.proofs.Appends.{after_three}
use Rattle.tn_formats.proofs.summary.put_calls.Goals as goal

pub returns : goal.returns
returns g c = after_three _ _ _ _ _ _ _ c.in_ok-put_kind.ensures c.in_ok-put_kind-2.ensures c.in_ok-put_kind-3.ensures
