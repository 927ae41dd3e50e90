use Rattle.std.proofs.Common.{◌≡◌, drop, false}
use Rattle.def_fun.specs.Scan.{in_quotes_at}
use Rattle.tn_fun.specs.Tokens.{codes_of_quoted}
use Rattle.tn_fun.specs.Sizes.{codes_onto}
use Rattle.tn_fun.proofs.names.quoted_codes.Given as goal

abbrev pub invariant-loop-b : goal.invariant-loop-b
invariant-loop-b g l = codes_onto l.codes.items (in_quotes_at l.quote l.escaped (drop l.b-index l.text)) ≡ codes_of_quoted (in_quotes_at l.quote false l.text)
