use Rattle.std.proofs.Common.{◌≡◌, drop}
use Rattle.def_term.specs.Text.{is_digit}
use Rattle.def_text.specs.Tokens.{all_are}
use Rattle.tn_fun_text.proofs.pattern_check.are_digits.Given as goal

abbrev pub invariant-loop-b : goal.invariant-loop-b
invariant-loop-b l = all_are is_digit (drop l.b-index l.bytes) ≡ all_are is_digit l.bytes
