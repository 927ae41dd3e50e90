-- What a specification of the code stands for.
use Rattle.def_spec.specs.Outcome as outcome
use Rattle.tn_spec.specs.Views.{spec_from}
use Rattle.tn_spec.specs.declared.spec.Spec.{Spec}

abbrev pub spec_seen : {A : Type 0} → Spec A → outcome.Spec
spec_seen s = spec_from s.dialect s.clauses.items
