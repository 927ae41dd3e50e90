use Rattle.def_spec.proofs.Values.{bodies_have_values, conditions_have_no_effects, effects_stand_after, only_trace_reads_flags, effects_change_no_value}
use Rattle.def_spec.proofs.bodies_have_values.Goals as goal

pub returns : goal.returns
returns c = record { values = bodies_have_values; conditions = conditions_have_no_effects; behind = effects_stand_after; flags = only_trace_reads_flags; alone = effects_change_no_value }
