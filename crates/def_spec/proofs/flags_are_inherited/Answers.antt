use Rattle.def_spec.proofs.Inheritance.{spawn_inherits, link_inherits}
use Rattle.def_spec.proofs.flags_are_inherited.Goals as goal

pub returns : goal.returns
returns c = record { spawn = spawn_inherits; link = link_inherits }
