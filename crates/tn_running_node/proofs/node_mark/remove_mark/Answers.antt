use Rattle.std.proofs.Common.{◌∙◌, ap, Bool, not, map, rules}
use Rattle.std.proofs.lemmas.Fn.{filter_same}
use Rattle.def_running_node.specs.NodeSessions as definition
use Rattle.def_running_node.specs.NodeSessions.{is_mark_at}
use Rattle.tn_running_node.specs.Views.{node_mark_seen}
use Rattle.tn_running_node.specs.declared.node_mark.NodeMark.{NodeMark}
use Rattle.tn_running_node.proofs.Filters.{filter_mapped}
use Rattle.tn_running_node.proofs.node_mark.remove_mark.Goals as goal

pub returns : goal.returns
returns g c =
    let stays : NodeMark _ → Bool = λ m. not (is_mark_at c.args.pid c.args.depth (node_mark_seen m)) in
    let seen : definition.NodeMark → Bool = λ m. not (is_mark_at c.args.pid c.args.depth m) in
    ap (map node_mark_seen) (filter_same _ stays _ (λ m b f k. search rules) _ _ c.retain.ensures.filtered) ∙ filter_mapped node_mark_seen seen c.args.marks.now.items
