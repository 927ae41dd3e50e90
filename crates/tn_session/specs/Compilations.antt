-- What the code's compiled specifications stand for.
use Rattle.def_spec.specs.Outcome.{Spec}
use Rattle.tn_spec.specs.Wholes.{spec_seen}
use Rattle.tn_session.specs.declared.compiled_spec.CompiledSpec.{CompiledSpec}

-- the specification that it is the code of
abbrev pub compiled_seen : {A : Type 0} → CompiledSpec A → Spec
compiled_seen c = spec_seen c.specification
