use Rattle.std.proofs.Common.{◌≡◌, ◌++◌, map, take}
use Rattle.def_notice.specs.MovesTexts.{plain_byte}
use Rattle.tn_text.specs.Writes.{Grows}
use Rattle.tn_notice.proofs.moves.put_plain.Given as goal

abbrev pub invariant-loop-b : goal.invariant-loop-b
invariant-loop-b g l = record {
  written : l.out.items ≡ l.initial.out.items ++ map plain_byte (take l.b-index l.bytes);
  grows : Grows l.initial.out.items l.out.items;
}
