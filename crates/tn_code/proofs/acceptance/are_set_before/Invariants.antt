use Rattle.std.proofs.Common.{◌≡◌, take, true}
use Rattle.def_machine.specs.Acceptance.{all_of_them, is_set_before}
use Rattle.tn_code.specs.Views.{instructions_of}
use Rattle.tn_code.proofs.acceptance.are_set_before.Given as goal

abbrev pub invariant-loop-register : goal.invariant-loop-register
invariant-loop-register g l = all_of_them (is_set_before (instructions_of l.items) l.reader) (take l.register-index l.registers) ≡ true
