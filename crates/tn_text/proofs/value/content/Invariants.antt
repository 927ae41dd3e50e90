use Rattle.std.proofs.Common.{◌≡◌, ◌++◌, drop, false}
use Rattle.def_text.specs.Scan.{unescape}
use Rattle.tn_text.proofs.value.content.Given as goal

abbrev pub invariant-loop-b : goal.invariant-loop-b
invariant-loop-b g l = l.out.items ++ unescape l.escaped (drop l.b-index l.text) ≡ unescape false l.text
