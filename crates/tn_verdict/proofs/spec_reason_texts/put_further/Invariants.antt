use Rattle.std.proofs.Common.{◌≡◌, ◌++◌}
use Rattle.tn_text.specs.Writes.{Grows}
use Rattle.tn_verdict.specs.SpecReasonTexts.{further_texts}
use Rattle.tn_verdict.proofs.spec_reason_texts.put_further.Given as goal

abbrev pub invariant-loop-i : goal.invariant-loop-i
invariant-loop-i g l = record {
  written : l.out.items ++ further_texts l.i l.terms ≡ l.fn.out.items ++ further_texts l.count l.terms;
  grows : Grows l.fn.out.items l.out.items;
}
