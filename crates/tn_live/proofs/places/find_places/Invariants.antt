use Rattle.std.proofs.Common.{◌≡◌, map, take}
use Rattle.tn_trace.specs.Items.{item_seen}
use Rattle.tn_live.specs.Places.{item_place}
use Rattle.tn_live.proofs.places.find_places.Given as goal

abbrev pub invariant-loop-item : goal.invariant-loop-item
invariant-loop-item g l = l.places.items ≡ map item_place (map item_seen (take l.item-index l.items))
