use Rattle.std.proofs.Common.{◌≡◌, false, drop, map}
use Rattle.def_explain.specs.Differences.{gets_flag_again}
use Rattle.tn_flags.specs.Views.{table_of}
use Rattle.tn_action.specs.Views.{effect_seen}
use Rattle.tn_difference.proofs.differences.gets_flag_again.Given as goal

abbrev pub invariant-loop-effect : goal.invariant-loop-effect
invariant-loop-effect g l = gets_flag_again l.self_pid (table_of l.flags) l.lost (map effect_seen (drop l.effect-index l.effects)) ≡ gets_flag_again l.self_pid (table_of l.fn.flags) false (map effect_seen l.effects)
