-- What a compiled specification with several owners stands for.
use Rattle.std.specs.Arc.{arc_value}
use Rattle.def_spec.specs.Outcome.{Spec}
use Rattle.tn_session.specs.Compilations.{compiled_seen}
use Rattle.tn_session.specs.declared.shared_spec.SharedSpec.{SharedSpec}

-- the specification that all owners have
abbrev pub shared_seen : {A : Type 0} → SharedSpec A → Spec
shared_seen s = compiled_seen (arc_value s.compiled)
