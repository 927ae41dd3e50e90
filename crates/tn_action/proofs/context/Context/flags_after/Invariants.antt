use Rattle.std.proofs.Common.{◌≡◌, map, drop}
use Rattle.def_spec.specs.Expressions.{flags_after}
use Rattle.tn_flags.specs.Views.{table_of}
use Rattle.tn_action.specs.Views.{effect_seen}
use Rattle.tn_action.proofs.context.Context.flags_after.Given as goal

abbrev pub invariant-loop-effect : goal.invariant-loop-effect
invariant-loop-effect g l = flags_after l.self.self_pid (table_of l.flags) (map effect_seen (drop l.effect-index l.effects)) ≡ flags_after l.self.self_pid (table_of l.self.flags.now) (map effect_seen l.effects)
