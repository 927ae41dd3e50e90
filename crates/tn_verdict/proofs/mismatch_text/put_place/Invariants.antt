use Rattle.std.proofs.Common.{◌≡◌, ◌++◌, drop, flat_map}
use Rattle.tn_text.specs.Writes.{Grows}
use Rattle.tn_verdict.specs.MismatchTexts.{level_text}
use Rattle.tn_verdict.proofs.mismatch_text.put_place.Given as goal

abbrev pub invariant-loop-before : goal.invariant-loop-before
invariant-loop-before g l = record {
  written : l.out.items ++ flat_map level_text (drop l.before-index l.place) ≡ l.fn.out.items ++ flat_map level_text l.place;
  grows : Grows l.fn.out.items l.out.items;
}
