use Rattle.std.proofs.Common.{◌∙◌, ◌==◌, refl, sym, ap}
use Rattle.tn_node.specs.Nodes.{moved_seen}
use Rattle.tn_search.specs.Probes.{has_no_event}
use Rattle.tn_search.proofs.FirstPicks.{none_in, not_moved}
use Rattle.tn_search.proofs.reduction.has_no_event.Goals as goal

pub returns-in_default : goal.returns-in_default
returns-in_default g c = not_moved has_no_event (λ n. refl) refl c.args.moved.now c.in_default.not-Moved

pub returns : goal.returns
returns g c = c.is_empty.ensures ∙ ap (λ n. n == 0) c.in-Moved.events.ok.0 ∙ none_in _ c.in-Moved.events.items ∙ sym (ap (λ m. has_no_event (moved_seen m)) c.in-Moved.is)
