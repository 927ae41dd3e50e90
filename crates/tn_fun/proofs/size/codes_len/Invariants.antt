use Rattle.std.proofs.Common.{◌≡◌, ◌≤◌, length, drop, false}
use Rattle.def_fun.specs.Scan.{in_quotes_at}
use Rattle.tn_fun.specs.Tokens.{codes_of_quoted}
use Rattle.tn_fun.specs.Sizes.{codes_after}
use Rattle.tn_fun.proofs.size.codes_len.Given as goal

abbrev pub invariant-loop-b : goal.invariant-loop-b
invariant-loop-b l = record {
  same : codes_after l.count (in_quotes_at l.quote l.escaped (drop l.b-index l.text)) ≡ length (codes_of_quoted (in_quotes_at l.quote false l.text));
  short : l.count ≤ l.b-index;
}
