use Rattle.std.proofs.Common.{◌≡◌, true}
use Rattle.def_machine.specs.Acceptance.{all_below}
use Rattle.tn_code.specs.Views.{instructions_of}
use Rattle.tn_code.proofs.Tests.{stops_there}
use Rattle.tn_code.proofs.acceptance.sets_before.Given as goal

abbrev pub invariant-loop-place : goal.invariant-loop-place
invariant-loop-place g l = all_below l.place (stops_there (instructions_of l.items) l.setter l.reader l.register) ≡ true
