use Rattle.std.proofs.Common.{◌≡◌, length, map, take, Some}
use Rattle.def_node.specs.Node.{fresh}
use Rattle.tn_script.specs.Views.{entry_of}
use Rattle.tn_node.specs.Worlds.{slot_of}
use Rattle.tn_node.proofs.world.World.new.Given as goal

abbrev pub invariant-loop-entry : goal.invariant-loop-entry
invariant-loop-entry g l = record {
  count : length l.slots.items ≡ l.entry-index;
  so_far : map slot_of l.slots.items ≡ map (λ e. Some (fresh (entry_of e))) (take l.entry-index l.entries);
}
