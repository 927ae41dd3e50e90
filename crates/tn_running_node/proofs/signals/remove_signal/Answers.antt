use Rattle.std.proofs.Common.{◌∙◌, ◌==◌, ap, Bool, not, map, rules}
use Rattle.std.proofs.lemmas.Fn.{filter_same}
use Rattle.def_running_node.specs.NodeRuns as definition
use Rattle.tn_running_node.specs.Views.{signal_seen}
use Rattle.tn_running_node.specs.declared.signals.Signal.{Signal}
use Rattle.tn_running_node.proofs.Filters.{filter_mapped}
use Rattle.tn_running_node.proofs.signals.remove_signal.Goals as goal

pub returns : goal.returns
returns g c =
    let stays : Signal → Bool = λ x. not (x.process == c.args.pid) in
    let seen : definition.Signal → Bool = λ x. not (x.process == c.args.pid) in
    ap (map signal_seen) (filter_same _ stays _ (λ x b f k. search rules) _ _ c.retain.ensures.filtered) ∙ filter_mapped signal_seen seen c.args.signals.now.items
