use Rattle.std.proofs.Common.{◌≡◌, ◌++◌, take, drop, false}
use Rattle.def_text.specs.Scan.{unescape}
use Rattle.tn_text.proofs.value.plain_content.Given as goal

abbrev pub invariant-loop-b : goal.invariant-loop-b
invariant-loop-b l = take l.b-index l.text ++ unescape false (drop l.b-index l.text) ≡ unescape false l.text
