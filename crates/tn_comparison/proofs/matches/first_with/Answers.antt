use Rattle.std.proofs.Common.{refl}
use Rattle.tn_comparison.proofs.matches.first_with.Goals as goal

pub returns : goal.returns
returns g c = c.in_ok-found.ensures _ (record { orders = c.in_ok-orders.ensures; goes_on = refl })
