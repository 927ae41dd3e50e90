use Rattle.std.proofs.Common.{ap, ap₂, sym, ◌∙◌, ◌∷◌, ◌++◌, map, slice_get, List, Option}
use Rattle.def_node.specs.Event.{exited, getting_unlinked}
use Rattle.def_node.specs.Process.{Process}
use Rattle.def_node.specs.Node.{World, Move, moved, idle, after_act, deliver, link_made, link_removed, start_process, exit_process, partners_told, partner_pids}
use Rattle.tn_term.specs.Views.{tree_of}
use Rattle.tn_term.specs.SharedTree.{shared_tree}
use Rattle.tn_flags.specs.Views.{event_of}
use Rattle.tn_script.specs.Views.{entry_of}
use Rattle.tn_process.specs.Views.{act_seen}
use Rattle.tn_node.proofs.Slots.{changed_here, set_changed}
use Rattle.tn_node.proofs.world.World.carry_out.Goals as goal

pub returns-in-Waits : goal.returns-in-Waits
returns-in-Waits g c before q r here put =
    ap idle put ∙ sym (ap (λ a. after_act before c.args.place c.args.pid (act_seen r a)) c.in-Waits.is)

pub returns-in-Continues : goal.returns-in-Continues
returns-in-Continues g c before q r here put =
    ap (λ (w : World). moved w (map event_of c.in-Continues.events.items)) put ∙ sym (ap (λ a. after_act before c.args.place c.args.pid (act_seen r a)) c.in-Continues.is)

pub returns-in_ok-deliver-in-Sends : goal.returns-in_ok-deliver-in-Sends
returns-in_ok-deliver-in-Sends g c before q r here put =
    c.in_ok-deliver-in-Sends.ensures ∙ ap (λ (w : World). deliver w c.args.pid c.in-Sends.to (shared_tree c.in-Sends.message)) put
    ∙ sym (ap (λ a. after_act before c.args.place c.args.pid (act_seen r a)) c.in-Sends.is)

pub returns-in_ok-link-in-LinksTo : goal.returns-in_ok-link-in-LinksTo
returns-in_ok-link-in-LinksTo g c before q r here put =
    c.in_ok-link-in-LinksTo.ensures ∙ ap (λ (w : World). link_made w c.args.place c.args.pid c.in-LinksTo.other) put
    ∙ sym (ap (λ a. after_act before c.args.place c.args.pid (act_seen r a)) c.in-LinksTo.is)

pub returns-in_ok-unlink-in-UnlinksFrom : goal.returns-in_ok-unlink-in-UnlinksFrom
returns-in_ok-unlink-in-UnlinksFrom g c before q r here put =
    c.in_ok-unlink-in-UnlinksFrom.ensures ∙ ap (λ (w : World). link_removed w c.args.place c.args.pid c.in-UnlinksFrom.other) put
    ∙ sym (ap (λ a. after_act before c.args.place c.args.pid (act_seen r a)) c.in-UnlinksFrom.is)

pub returns-in_ok-start-in-Spawns : goal.returns-in_ok-start-in-Spawns
returns-in_ok-start-in-Spawns g c before q r here put =
    c.in_ok-start-in-Spawns.ensures ∙ ap (λ (w : World). start_process w c.args.pid c.in-Spawns.child (entry_of c.in-Spawns.entry)) put
    ∙ sym (ap (λ a. after_act before c.args.place c.args.pid (act_seen r a)) c.in-Spawns.is)

pub returns-in_ok-finish-in-Exits : goal.returns-in_ok-finish-in-Exits
returns-in_ok-finish-in-Exits g c before q r here put =
    let n = c.args.pid in
    let i = c.args.place in
    let t = tree_of c.in-Exits.reason in
    let es = map event_of c.in-Exits.events.items in
    let linked = c.partners-partners.ensures r (ap (λ (w : World). slice_get w.slots i) put ∙ changed_here before.slots i q r here) in
    let E : List (Option Process) → Move = λ ss. moved (record { slots = partners_told n t r.links ss }) (es ++ exited n t ∷ map (λ m. getting_unlinked m n) (partner_pids 100 r.links)) in
    c.in_ok-finish-in-Exits.ensures
    ∙ ap₂ (λ (w : World) ps. exit_process w i n ps t es) put linked
    ∙ ap E (set_changed before.slots i (λ x. r))
    ∙ sym (ap (λ a. after_act before i n (act_seen r a)) c.in-Exits.is)
