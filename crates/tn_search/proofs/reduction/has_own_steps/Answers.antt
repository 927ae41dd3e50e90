use Rattle.std.proofs.Common.{◌∙◌, refl, sym, ap}
use Rattle.tn_node.specs.Nodes.{moved_seen}
use Rattle.tn_search.specs.Probes.{has_own_steps}
use Rattle.tn_search.proofs.FirstPicks.{not_moved}
use Rattle.tn_search.proofs.reduction.has_own_steps.Goals as goal

pub returns-in_default : goal.returns-in_default
returns-in_default g c = not_moved has_own_steps (λ n. refl) refl c.args.moved.now c.in_default.not-Moved

pub returns : goal.returns
returns g c = c.are_own_steps.ensures ∙ sym (ap (λ m. has_own_steps (moved_seen m)) c.in-Moved.is)
