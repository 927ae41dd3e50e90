use Rattle.std.proofs.Common.{◌∙◌, ap}
use Rattle.def_spec.specs.Expressions as ex
use Rattle.tn_guard.specs.Views.{value_seen}
use Rattle.tn_guard.proofs.Views.{value_seen_pid}
use Rattle.tn_action.specs.Steps.{context_at}
use Rattle.tn_action.proofs.trace.trace_own.Goals as goal

pub returns : goal.returns
returns g c =
    let context = context_at c.args.context.now c.args.past.now in
    c.trace_on.ensures ∙ ap (λ p. ex.trace_on context p (value_seen c.args.off) (value_seen c.args.on)) (value_seen_pid _ _)
