use Rattle.std.proofs.Common.{◌≡◌, drop, false}
use Rattle.def_text.specs.Scan.{quoted_end}
use Rattle.tn_text.proofs.scan.quoted_len.Given as goal

abbrev pub invariant-loop-i : goal.invariant-loop-i
invariant-loop-i l = quoted_end l.quote l.escaped l.i (drop l.i l.bytes) ≡ quoted_end l.quote false 0 l.bytes
