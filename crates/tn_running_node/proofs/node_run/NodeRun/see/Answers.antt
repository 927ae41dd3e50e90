use Rattle.std.proofs.Common.{◌∙◌, sym, ap}
use Rattle.tn_flags.specs.Views.{event_of}
use Rattle.tn_node.specs.Outlooks.{outlook_seen}
use Rattle.tn_running_node.specs.RunChanges.{after_change}
use Rattle.tn_running_node.specs.Views.{node_run_seen}
use Rattle.tn_running_node.proofs.Runs.{and_determined, run_after_is}
use Rattle.tn_running_node.proofs.node_run.NodeRun.see.Goals as goal

pub returns : goal.returns
returns g c =
    let r = node_run_seen c.args.self.now in
    let l = outlook_seen c.args.outlook in
    let e = event_of c.args.event.now in
    ap (λ q. and_determined q c.is_determined_after-is_determined.result) c.in_ok-change.ensures
    ∙ ap (and_determined (after_change r l e)) c.is_determined_after-is_determined.ensures
    ∙ sym (run_after_is r l e)
