use Rattle.std.proofs.Common.{sym, ap}
use Rattle.std.specs.Option.{option_map}
use Rattle.tn_guard.specs.Views.{value_seen}
use Rattle.tn_action.specs.Parts.{settled_in}
use Rattle.tn_action.proofs.eval_context.EvalContext.settle.Goals as goal

pub returns-in-Condition : goal.returns-in-Condition
returns-in-Condition g c = ap (λ part. settled_in part (option_map value_seen c.args.value)) (sym c.in-Condition.is)
