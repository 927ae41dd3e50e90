use Rattle.std.proofs.Common.{◌∙◌, ap}
use Rattle.tn_node.specs.Nodes.{node_seen}
use Rattle.tn_node.proofs.Picks.{after_pick}
use Rattle.tn_node.proofs.node.State.step.Goals as goal

pub returns-then-pick-eq0 : goal.returns-then-pick-eq0
returns-then-pick-eq0 g c = ap (after_pick (node_seen c.args.self.now)) c.if-pick-eq0.true ∙ c.step_control.ensures
