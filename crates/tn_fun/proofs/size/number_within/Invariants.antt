use Rattle.std.proofs.Common.{◌≡◌, ◌≤◌, drop}
use Rattle.def_term.specs.Text.{number_after}
use Rattle.def_text.specs.Tokens.{number}
use Rattle.tn_fun.proofs.size.number_within.Given as goal

abbrev pub invariant-loop-d : goal.invariant-loop-d
invariant-loop-d l = record {
  small : l.value ≤ l.greatest;
  same : number_after l.value (drop l.d-index l.digits) ≡ number l.digits;
}
