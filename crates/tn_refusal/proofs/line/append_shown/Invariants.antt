use Rattle.std.proofs.Common.{◌≡◌, ◌++◌, map, take}
use Rattle.tn_refusal.specs.Lines.{printable_byte}
use Rattle.tn_refusal.proofs.line.append_shown.Given as goal

abbrev pub invariant-loop-b : goal.invariant-loop-b
invariant-loop-b g l = l.line.items ≡ l.initial.line.items ++ map printable_byte (take l.b-index l.bytes)
