use Rattle.std.proofs.Common.{◌≡◌, ◌≤◌, ◌-◌, ◌++◌, length, map}
use Rattle.def_fun.specs.Scan.{fun_spans}
use Rattle.tn_fun.specs.Tokens.{span_seen, spans_from}
use Rattle.tn_fun.proofs.lexer.tokens.Given as goal

abbrev pub invariant-loop-token : goal.invariant-loop-token
invariant-loop-token g l = record {
  within : l.at ≤ length l.bytes;
  listed : map (span_seen l.bytes) l.found.items ++ spans_from l.bytes l.at ≡ fun_spans l.bytes;
}

abbrev pub decreases-loop-token : goal.decreases-loop-token
decreases-loop-token g l = length l.bytes - l.at
