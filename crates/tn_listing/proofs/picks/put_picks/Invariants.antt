use Rattle.std.proofs.Common.{◌≡◌, ◌++◌, map, decimal, take}
use Rattle.std.specs.List.{join_with_byte}
use Rattle.tn_text.specs.Writes.{Grows}
use Rattle.tn_listing.proofs.picks.put_picks.Given as goal

abbrev pub invariant-loop-i : goal.invariant-loop-i
invariant-loop-i g l = record {
  written : l.text.items ≡ l.fn.text.items ++ join_with_byte 32 (map decimal (take l.i l.picks));
  grows : Grows l.fn.text.items l.text.items;
}
