use Rattle.std.proofs.Common.{◌≡◌, ◌+◌, false, drop}
use Rattle.def_formats.specs.Lines.{quoted_length}
use Rattle.tn_formats.proofs.atom.quoted_length.Given as goal

-- no quote so far ends it
abbrev pub invariant-loop-i : goal.invariant-loop-i
invariant-loop-i l = quoted_length false l.text ≡ l.i + quoted_length l.escapes (drop l.i l.text)
