use Rattle.std.proofs.Common.{◌∙◌, ap, sym, Some, None}
use Rattle.tn_node.specs.Worlds.{move_of}
use Rattle.tn_node.specs.Nodes.{node_seen}
use Rattle.tn_node.proofs.Picks.{process_pick}
use Rattle.tn_node.proofs.node.State.step_process.Goals as goal

pub returns-in-Some : goal.returns-in-Some
returns-in-Some g c =
    let before = c.args.self.now in
    let after = c.step.new.self in
    process_pick (node_seen before) c.args.pid (move_of after (Some c.in-Some.events)) c.requires (sym (ap (move_of after) c.in-Some.is) ∙ c.in_ok-events.ensures)

pub returns-in-None : goal.returns-in-None
returns-in-None g c =
    let before = c.args.self.now in
    let after = c.step.new.self in
    process_pick (node_seen before) c.args.pid (move_of after None) c.requires (sym (ap (move_of after) c.in-None.is) ∙ c.in_ok-events.ensures)
