use Rattle.std.proofs.Common.{◌≡◌, drop, map}
use Rattle.std.specs.List.{list_any}
use Rattle.def_explain.specs.Differences.{names_flag}
use Rattle.tn_action.specs.Views.{effect_seen}
use Rattle.tn_difference.proofs.differences.names_flag.Given as goal

abbrev pub invariant-loop-effect : goal.invariant-loop-effect
invariant-loop-effect g l = list_any names_flag (map effect_seen (drop l.effect-index l.effects)) ≡ list_any names_flag (map effect_seen l.effects)
