use Rattle.def_spec.proofs.Outcomes.{walk_is_matching, binding_is_unique, walk_misses_none}
use Rattle.def_spec.proofs.matching_is_the_one_binding.Goals as goal

pub returns : goal.returns
returns c = record { walk = walk_is_matching; unique = binding_is_unique; none = walk_misses_none }
