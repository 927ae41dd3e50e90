use Rattle.std.proofs.Common.{ap, sym, ◌∙◌, Option, arith}
use Rattle.def_node.specs.Process.{act}
use Rattle.def_node.specs.Node.{after_act}
use Rattle.def_node.proofs.Steps.{living_here}
use Rattle.tn_process.specs.Functions.{functions_in}
use Rattle.tn_node.specs.Worlds.{world_of}
use Rattle.tn_node.proofs.Room.{room_left}
use Rattle.tn_node.proofs.world.World.step.Goals as goal

pub carry_out-requires : goal.carry_out-requires
carry_out-requires g c =
    let w = world_of c.args.self.now in
    let ks = functions_in c.args.functions.now in
    let i = c.in-Some.place in
    let here = living_here w c.args.pid i (sym c.place_of_pid.ensures.place ∙ c.in-Some.is) in
    let done = c.in_ok-act.ensures.acts here.0 here.1.0 in
    let size = c.in_ok-act.ensures.size in
    record {
      place_within = omega (arith, c.in-Some.ensures.within.0, size);
      at = here.1.1.0;
      room = room_left ks c.args.self.now c.args.pid c.next_pid-child.result here.0 done.0 c.in_ok-act.act _ c.next_pid-child.ensures done.2 size;
    }

pub returns : goal.returns
returns g c =
    let w = world_of c.args.self.now in
    let ks = functions_in c.args.functions.now in
    let i = c.in-Some.place in
    let n = c.args.pid in
    let here = living_here w n i (sym c.place_of_pid.ensures.place ∙ c.in-Some.is) in
    let done = c.in_ok-act.ensures.acts here.0 here.1.0 in
    c.in_ok-carry_out.ensures w here.0 done.0 here.1.0 done.1
    ∙ ap (after_act w i n) (done.2 ∙ ap (λ (child : Option _). act ks n child here.0) c.next_pid-child.ensures) ∙ here.1.1.1 ks
