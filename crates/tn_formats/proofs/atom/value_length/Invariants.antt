use Rattle.std.proofs.Common.{◌≡◌, ◌+◌, false, drop}
use Rattle.def_formats.specs.Lines.{value_length}
use Rattle.tn_formats.proofs.atom.value_length.Given as goal

-- no colon so far is outside of quotes
abbrev pub invariant-loop-i : goal.invariant-loop-i
invariant-loop-i l = value_length false false l.text ≡ l.i + value_length l.is_quoted l.escapes (drop l.i l.text)
