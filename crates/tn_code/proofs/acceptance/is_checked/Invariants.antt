use Rattle.std.proofs.Common.{◌≡◌, true}
use Rattle.def_machine.specs.Acceptance.{all_below}
use Rattle.tn_code.specs.Views.{instructions_of}
use Rattle.tn_code.proofs.Tests.{fine_there}
use Rattle.tn_code.proofs.acceptance.is_checked.Given as goal

abbrev pub invariant-loop-place : goal.invariant-loop-place
invariant-loop-place g l = all_below l.place (fine_there (instructions_of l.items)) ≡ true
