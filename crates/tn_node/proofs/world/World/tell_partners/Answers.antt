use Rattle.std.proofs.Common.{ap, ◌∙◌, arith}
use Rattle.def_node.specs.Node.{World}
use Rattle.tn_term.specs.Views.{tree_of}
use Rattle.tn_node.specs.Worlds.{slot_of}
use Rattle.tn_node.proofs.Loops.{skip_more, tell_more, told_done}
use Rattle.tn_node.proofs.world.World.tell_partners.Goals as goal

pub loop-place-preserved-then-not-partners-place : goal.loop-place-preserved-then-not-partners-place
loop-place-preserved-then-not-partners-place g c =
    let few = c.loop-place.self.few in
    record {
      size = c.loop-place.invariant.size;
      reported = skip_more slot_of c.args.pid (tree_of c.args.reason.now) c.args.partners.now c.loop-place.self.slots.items c.loop-place.place _
          (omega (arith, c.args.self.now.slots.ok.0)) (omega (arith, few, c.args.self.now.slots.ok.0)) c.if-not-partners-place.true c.loop-place.invariant.reported;
    }

pub loop-place-preserved : goal.loop-place-preserved
loop-place-preserved g c =
    let few = c.loop-place.self.few in
    record {
      size = c.in_ok-part.ensures.size ∙ c.loop-place.invariant.size;
      reported = tell_more slot_of c.args.pid (tree_of c.args.reason.now) c.args.partners.now c.loop-place.self.slots.items c.part.new.self.slots.items c.loop-place.place _
          (omega (arith, c.args.self.now.slots.ok.0)) (omega (arith, few, c.args.self.now.slots.ok.0)) c.if-not-partners-place.false (ap (λ (w : World). w.slots) c.in_ok-part.ensures.change) c.loop-place.invariant.reported;
    }

pub returns : goal.returns
returns g c =
    told_done slot_of c.args.pid (tree_of c.args.reason.now) c.args.partners.now c.loop-place.self.slots.items c.loop-place.place _
    (omega (arith, c.args.self.now.slots.ok.0)) c.loop-place.invariant.reported
