use Rattle.std.proofs.Common.{◌≡◌, drop, map}
use Rattle.def_explain.specs.Differences.{later_silent}
use Rattle.tn_action.specs.Views.{effect_seen}
use Rattle.tn_difference.proofs.effects.is_silent.Given as goal

abbrev pub invariant-loop-effect : goal.invariant-loop-effect
invariant-loop-effect g l = later_silent l.self_pid l.silent (map effect_seen (drop l.effect-index l.effects)) ≡ later_silent l.self_pid l.before (map effect_seen l.effects)
