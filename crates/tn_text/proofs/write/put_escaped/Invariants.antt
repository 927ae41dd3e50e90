use Rattle.std.proofs.Common.{◌≡◌, ◌++◌, drop, flat_map}
use Rattle.def_term.specs.Text.{escape}
use Rattle.tn_text.specs.Writes.{Grows}
use Rattle.tn_text.proofs.write.put_escaped.Given as goal

abbrev pub invariant-loop-b : goal.invariant-loop-b
invariant-loop-b g l = record {
  written : l.out.items ++ flat_map escape (drop l.b-index l.bytes) ≡ l.fn.out.items ++ flat_map escape l.bytes;
  grows : Grows l.fn.out.items l.out.items;
}
