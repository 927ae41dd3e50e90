use Rattle.std.proofs.Common.{◌≡◌, map, take}
use Rattle.tn_guard.specs.Views.{value_seen}
use Rattle.tn_action.proofs.eval_context.list_of_bound.Given as goal

abbrev pub invariant-loop-binding : goal.invariant-loop-binding
invariant-loop-binding g l = map value_seen l.values.items ≡ map (λ b. value_seen b.value) (take l.binding-index l.bindings)
