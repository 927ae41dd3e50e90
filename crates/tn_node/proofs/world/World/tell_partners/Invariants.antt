use Rattle.std.proofs.Common.{◌≡◌, length}
use Rattle.def_node.specs.Node.{partners_told}
use Rattle.tn_term.specs.Views.{tree_of}
use Rattle.tn_node.specs.Worlds.{world_of}
use Rattle.tn_node.proofs.Slots.{told_from}
use Rattle.tn_node.proofs.world.World.tell_partners.Given as goal

abbrev pub invariant-loop-place : goal.invariant-loop-place
invariant-loop-place g l = record {
  size : length l.self.slots.items ≡ length l.initial.self.slots.items;
  reported : told_from l.pid (tree_of l.reason) l.partners l.place (world_of l.self).slots ≡ partners_told l.pid (tree_of l.reason) l.partners (world_of l.initial.self).slots;
}
