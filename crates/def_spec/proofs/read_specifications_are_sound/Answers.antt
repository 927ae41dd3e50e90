use Rattle.def_spec.proofs.Numbers.{variables_are_numbered}
use Rattle.def_spec.proofs.Reading.{read_specs_are_sound}
use Rattle.def_spec.proofs.read_specifications_are_sound.Goals as goal

pub returns : goal.returns
returns c = record { sound = read_specs_are_sound; numbered = variables_are_numbered }
