use Rattle.std.proofs.Common.{◌≡◌, drop}
use Rattle.def_spec.specs.Reading.{all_digits}
use Rattle.tn_spec.proofs.names.are_digits.Given as goal

abbrev pub invariant-loop-b : goal.invariant-loop-b
invariant-loop-b l = all_digits (drop l.b-index l.bytes) ≡ all_digits l.bytes
