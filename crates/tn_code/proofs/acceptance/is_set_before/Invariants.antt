use Rattle.std.proofs.Common.{◌≡◌, false}
use Rattle.def_machine.specs.Acceptance.{some_below, sets_before}
use Rattle.tn_code.specs.Views.{instructions_of}
use Rattle.tn_code.proofs.acceptance.is_set_before.Given as goal

abbrev pub invariant-loop-setter : goal.invariant-loop-setter
invariant-loop-setter g l = some_below l.setter (sets_before (instructions_of l.items) l.reader l.register) ≡ false
