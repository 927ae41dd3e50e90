use Rattle.std.proofs.Common.{Some, ap, sym, ◌∙◌, is_ok}
use Rattle.std.specs.Option.{option_map}
use Rattle.def_node.specs.Node.{with_link}
use Rattle.def_node.specs.Process.{Process}
use Rattle.tn_node.specs.Worlds.{slot_of, world_of}
use Rattle.tn_node.proofs.Slots.{changed_set}
use Rattle.tn_node.proofs.Owners.{owner_changed}
use Rattle.tn_node.proofs.world.World.set_link.Goals as goal

pub returns-in_ok-process-in-Some-clause-change : goal.returns-in_ok-process-in-Some-clause-change
returns-in_ok-process-in-Some-clause-change g c =
    let w = world_of c.args.self.now in
    let x = c.index_mut.result.now in
    let p = c.set_link.new.self in
    let n = c.make_mut.follows.lender p in
    let F : Process → Process = with_link c.args.pid c.args.linked in
    ap (λ ss. record w { slots = ss })
    (changed_set slot_of c.args.self.now.slots.items c.args.place x (Some n) F c.requires.place_within c.index_mut.ensures.value
    (owner_changed x c.in-Some.owner n c.in_ok-process-in-Some.process.now p F c.in-Some.is c.in_ok-process-in-Some.ensures.value c.set_link.ensures (c.make_mut.follows.holds p (ap is_ok c.in_ok-process-in-Some.was))))

pub returns-in-None-clause-change : goal.returns-in-None-clause-change
returns-in-None-clause-change g c =
    let w = world_of c.args.self.now in
    let x = c.index_mut.result.now in
    let F : Process → Process = with_link c.args.pid c.args.linked in
    ap (λ ss. record w { slots = ss })
    (changed_set slot_of c.args.self.now.slots.items c.args.place x x F c.requires.place_within c.index_mut.ensures.value
    (ap slot_of c.in-None.is ∙ sym (ap (λ s. option_map F (slot_of s)) c.in-None.is)))
