use Rattle.std.proofs.Common.{◌≡◌, ◌<◌, ◌^◌, drop, true}
use Rattle.def_term.specs.Text.{number_after}
use Rattle.def_spec.specs.Reading.{all_digits}
use Rattle.tn_spec.proofs.names.number.Given as goal

abbrev pub invariant-loop-digit : goal.invariant-loop-digit
invariant-loop-digit l = record {
  small : l.n < 10 ^ l.digit-index;
  digits : all_digits (drop l.digit-index l.digits) ≡ true;
  value : number_after l.n (drop l.digit-index l.digits) ≡ number_after 0 l.digits;
}
