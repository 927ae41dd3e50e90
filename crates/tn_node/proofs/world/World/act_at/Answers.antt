use Rattle.std.proofs.Common.{Some, ap, ◌∙◌, is_ok, refl}
use Rattle.def_node.specs.Process.{Process, act}
use Rattle.std.specs.Arc.{arc_value}
use Rattle.tn_process.specs.Functions.{functions_in}
use Rattle.tn_process.specs.Views.{process_seen}
use Rattle.tn_process.proofs.Lookup.{seen_at}
use Rattle.tn_node.specs.Worlds.{slot_of, world_of}
use Rattle.tn_node.proofs.Slots.{changed_set, same_here, none_here}
use Rattle.tn_node.proofs.Acts.{seen_of}
use Rattle.tn_node.proofs.Owners.{owner_changed, same_process}
use Rattle.tn_node.proofs.world.World.act_at.Goals as goal

pub returns-in_ok-act-in-Some-clause-acts : goal.returns-in_ok-act-in-Some-clause-acts
returns-in_ok-act-in-Some-clause-acts g c q e =
    let w = world_of c.args.self.now in
    let items = c.args.self.now.slots.items in
    let x = c.index_mut.result.now in
    let p = c.act.new.self in
    let n = c.make_mut.follows.lender p in
    let had = c.in_ok-process-in-Some.process.now in
    let F : Process → Process = λ r. process_seen p in
    let copied = c.in_ok-process-in-Some.ensures.value in
    let same = same_process (arc_value c.in-Some.owner) had copied ∙ same_here _ _ (process_seen (arc_value c.in-Some.owner)) q (seen_at slot_of items c.args.place x c.requires c.index_mut.ensures.value) (ap slot_of c.in-Some.is) e in (
      process_seen p,
      ap (λ ss. record w { slots = ss })
          (changed_set slot_of items c.args.place x (Some n) F c.requires c.index_mut.ensures.value
          (owner_changed x c.in-Some.owner n had p F c.in-Some.is copied refl (c.make_mut.follows.holds p (ap is_ok c.in_ok-process-in-Some.was)))),
      seen_of p c.in_ok-act-in-Some.field-0 ∙ c.in_ok-act-in-Some.ensures ∙ ap (act (functions_in c.args.functions.now) c.args.pid c.args.child) same,
    )

pub returns-in-None-clause-acts : goal.returns-in-None-clause-acts
returns-in-None-clause-acts g c q e =
    let items = c.args.self.now.slots.items in
    let x = c.index_mut.result.now in
    absurd (none_here _ _ q (seen_at slot_of items c.args.place x c.requires c.index_mut.ensures.value) (ap slot_of c.in-None.is) e)
