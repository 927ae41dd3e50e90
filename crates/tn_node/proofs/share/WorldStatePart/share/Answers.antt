use Rattle.std.proofs.Common.{◌≡◌, ◌≤◌, length, sym, ap, ◌∙◌, arith}
use Rattle.std.proofs.lemmas.List.{length-map}
use Rattle.tn_node.specs.Worlds.{slot_of}
use Rattle.tn_node.proofs.share.WorldStatePart.share.Goals as goal

pub invariant_of-result : goal.invariant_of-result
invariant_of-result g c =
    let same : length c.in_ok-slots.slots.items ≡ length c.args.self.now.slots.items =
    sym (length-map c.in_ok-slots.slots.items (slot_of {A = g.row.A.Denot})) ∙ ap length c.in_ok-slots.ensures ∙ length-map c.args.self.now.slots.items (slot_of {A = g.row.A.Denot}) in
    let few : length c.args.self.now.slots.items ≤ 64 = c.args.self.now.few in
    omega (arith, same, few)
