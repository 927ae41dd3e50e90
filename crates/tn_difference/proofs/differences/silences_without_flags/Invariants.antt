use Rattle.std.proofs.Common.{◌≡◌, drop, map}
use Rattle.def_explain.specs.Differences.{silences_without_flags}
use Rattle.tn_flags.specs.Views.{table_of}
use Rattle.tn_action.specs.Views.{effect_seen}
use Rattle.tn_difference.proofs.differences.silences_without_flags.Given as goal

abbrev pub invariant-loop-effect : goal.invariant-loop-effect
invariant-loop-effect g l = silences_without_flags l.self_pid (table_of l.flags) (map effect_seen (drop l.effect-index l.effects)) ≡ silences_without_flags l.self_pid (table_of l.fn.flags) (map effect_seen l.effects)
