use Rattle.tn_node.specs.Nodes.{node_seen}
use Rattle.tn_node.proofs.Picks.{control_more, control_done}
use Rattle.tn_node.proofs.node.State.step_control.Goals as goal

pub returns-then-self : goal.returns-then-self
returns-then-self g c = control_more (node_seen c.args.self.now) c.if-self.true

pub returns-else-self : goal.returns-else-self
returns-else-self g c = control_done (node_seen c.args.self.now) c.if-self.false
