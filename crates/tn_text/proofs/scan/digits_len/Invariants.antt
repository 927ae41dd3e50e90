use Rattle.std.proofs.Common.{◌≡◌, ◌+◌, drop}
use Rattle.def_term.specs.Text.{is_digit}
use Rattle.def_text.specs.Scan.{run_len}
use Rattle.tn_text.proofs.scan.digits_len.Given as goal

abbrev pub invariant-loop-i : goal.invariant-loop-i
invariant-loop-i l = l.i + run_len is_digit (drop l.i l.bytes) ≡ run_len is_digit l.bytes
