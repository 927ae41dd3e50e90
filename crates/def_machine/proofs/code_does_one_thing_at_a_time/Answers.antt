use Rattle.def_machine.proofs.PlacedCode.{one-step}
use Rattle.def_machine.proofs.Endings.{no-step, one-end}
use Rattle.def_machine.proofs.code_does_one_thing_at_a_time.Goals as goal

pub returns : goal.returns
returns c = record { one = one-step; ended = no-step; alike = one-end }
