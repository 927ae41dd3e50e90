use Rattle.std.proofs.Common.{◌≡◌, ◌++◌, drop}
use Rattle.tn_notice.specs.PlainTexts.{escaped_text}
use Rattle.tn_notice.proofs.plain_text.escape_controls.Given as goal

abbrev pub invariant-loop-b : goal.invariant-loop-b
invariant-loop-b g l = l.out.items ++ escaped_text (drop l.b-index l.b-items) ≡ escaped_text l.b-items
