use Rattle.def_spec.proofs.Outcomes.{outcome_is_computed, outcome_is_unique}
use Rattle.def_spec.proofs.outcome_is_of_the_first_clause.Goals as goal

pub returns : goal.returns
returns c = record { computed = outcome_is_computed; unique = outcome_is_unique }
