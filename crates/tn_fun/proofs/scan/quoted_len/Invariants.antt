use Rattle.std.proofs.Common.{◌≡◌, ◌+◌, ◌≤◌, drop, false, cond}
use Rattle.def_fun.specs.Scan.{in_quotes_at}
use Rattle.tn_fun.specs.Tokens.{quoted_size, after_bytes}
use Rattle.tn_fun.proofs.scan.quoted_len.Given as goal

abbrev pub invariant-loop-b : goal.invariant-loop-b
invariant-loop-b l = record {
  same : after_bytes l.len l.printable (quoted_size (in_quotes_at l.quote l.escaped (drop l.b-index l.bytes))) ≡ quoted_size (in_quotes_at l.quote false l.bytes);
  short : l.len + cond l.escaped 1 0 ≤ l.b-index;
}
