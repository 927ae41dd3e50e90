use Rattle.std.proofs.Common.{◌≡◌, ◌++◌, drop}
use Rattle.def_term.specs.Text.{each_after_comma}
use Rattle.def_explain.specs.Spellings.{spellings}
use Rattle.tn_spec.specs.Views.{exprs_seen}
use Rattle.tn_text.specs.Writes.{Grows}
use Rattle.tn_verdict.proofs.expression_text.+put.Given as goal

abbrev pub invariant-put_after-loop-i : goal.invariant-put_after-loop-i
invariant-put_after-loop-i g l = record {
  written : l.out.items ++ each_after_comma (spellings (exprs_seen (drop l.i l.exprs.items))) ≡ l.fn.out.items ++ each_after_comma (spellings (exprs_seen (drop l.count l.exprs.items)));
  grows : Grows l.fn.out.items l.out.items;
}
