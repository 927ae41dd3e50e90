use Rattle.std.proofs.Common.{Some, ap, sym, ◌∙◌, is_ok}
use Rattle.std.specs.Option.{option_map}
use Rattle.def_node.specs.Node.{with_signal}
use Rattle.def_node.specs.Process.{Process}
use Rattle.tn_term.specs.Views.{tree_of}
use Rattle.tn_node.specs.Worlds.{slot_of, world_of}
use Rattle.tn_node.proofs.Slots.{changed_set}
use Rattle.tn_node.proofs.Owners.{owner_changed}
use Rattle.tn_node.proofs.world.World.put_signal.Goals as goal

pub returns-in_ok-process-in-Some : goal.returns-in_ok-process-in-Some
returns-in_ok-process-in-Some g c =
    let w = world_of c.args.self.now in
    let x = c.index_mut.result.now in
    let p = c.put_signal.new.self in
    let n = c.make_mut.follows.lender p in
    let F : Process → Process = with_signal (tree_of c.args.reason) in
    ap (λ ss. record w { slots = ss })
    (changed_set slot_of c.args.self.now.slots.items c.args.place x (Some n) F c.requires c.index_mut.ensures.value
    (owner_changed x c.in-Some.owner n c.in_ok-process-in-Some.process.now p F c.in-Some.is c.in_ok-process-in-Some.ensures.value c.put_signal.ensures (c.make_mut.follows.holds p (ap is_ok c.in_ok-process-in-Some.was))))

pub returns-in-None : goal.returns-in-None
returns-in-None g c =
    let w = world_of c.args.self.now in
    let x = c.index_mut.result.now in
    let F : Process → Process = with_signal (tree_of c.args.reason) in
    ap (λ ss. record w { slots = ss })
    (changed_set slot_of c.args.self.now.slots.items c.args.place x x F c.requires c.index_mut.ensures.value
    (ap slot_of c.in-None.is ∙ sym (ap (λ s. option_map F (slot_of s)) c.in-None.is)))
