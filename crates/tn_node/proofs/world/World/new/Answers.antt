use Rattle.std.proofs.Common.{◌≡◌, ap, ◌∙◌, ◌∷◌, ◌++◌, [], List, length, Some, Option, arith, rules}
use Rattle.std.proofs.lemmas.List.{length-append}
use Rattle.def_node.specs.Process.{Process}
use Rattle.def_node.specs.Node.{World, fresh}
use Rattle.tn_script.specs.Views.{entry_of}
use Rattle.tn_script.specs.declared.form.Entry.{Entry}
use Rattle.tn_term.proofs.Steps.{made_more}
use Rattle.tn_process.proofs.Templates.{all_taken, map_twice}
use Rattle.tn_process.specs.Views.{process_seen}
use Rattle.tn_node.specs.Worlds.{slot_of}
use Rattle.tn_node.proofs.world.World.new.Goals as goal

pub loop-entry-preserved : goal.loop-entry-preserved
loop-entry-preserved g c =
    let p = c.in_ok-owner.owner in
    let pushed : c.push.new.self.items ≡ c.loop-entry.slots.items ++ Some p ∷ [] = search rules in
    let F : Entry g.row.A.Denot → Option Process = λ e. Some (fresh (entry_of e)) in
    record {
      count = ap length pushed ∙ simp length-append (omega (arith, c.loop-entry.invariant.count));
      so_far = made_more F slot_of c.args.entries.now c.loop-entry.entry-index c.entry-item.result c.loop-entry.slots.items c.push.new.self.items (Some p)
          (omega arith) c.entry-item.is pushed (ap (λ q. Some (process_seen q)) c.in_ok-owner.ensures.ok ∙ ap Some (c.new-process.ensures ∙ ap fresh c.in_ok-copy.ensures)) c.loop-entry.invariant.so_far;
    }

pub returns : goal.returns
returns g c =
    let F : Entry g.row.A.Denot → Option Process = λ e. Some (fresh (entry_of e)) in
    let W : List (Option Process) → World = λ ss. record { slots = ss } in
    ap W (c.loop-entry.invariant.so_far ∙ all_taken F c.args.entries.now c.loop-entry.entry-index (omega arith) ∙ map_twice entry_of (λ e. Some (fresh e)) c.args.entries.now)
