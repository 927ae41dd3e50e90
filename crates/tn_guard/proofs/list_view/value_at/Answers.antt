use Rattle.tn_guard.specs.Views.{value_seen}
use Rattle.tn_guard.proofs.Places.{nth_seen}
use Rattle.tn_guard.proofs.list_view.value_at.Goals as goal

pub returns : goal.returns
returns g c = nth_seen value_seen c.args.items.now c.args.place _ c.requires c.index-items-place.is
