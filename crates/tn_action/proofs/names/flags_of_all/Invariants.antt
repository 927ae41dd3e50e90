use Rattle.std.proofs.Common.{◌≡◌}
use Rattle.std.specs.Option.{option_map}
use Rattle.def_spec.specs.Flags.{flags_named, union}
use Rattle.tn_flags.specs.Views.{flags_of}
use Rattle.tn_guard.specs.Views.{list_view_seen}
use Rattle.tn_guard.proofs.Places.{rest_from}
use Rattle.tn_action.proofs.names.flags_of_all.Given as goal

abbrev pub invariant-loop-place : goal.invariant-loop-place
invariant-loop-place g l = option_map (union (flags_of l.flags)) (flags_named (rest_from l.place (list_view_seen l.parts))) ≡ flags_named (list_view_seen l.parts)
