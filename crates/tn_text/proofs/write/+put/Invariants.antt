use Rattle.std.proofs.Common.{◌≡◌, ◌++◌, drop}
use Rattle.def_term.specs.Text.{comma_list, each_after_comma}
use Rattle.tn_term.specs.Views.{trees_of}
use Rattle.tn_text.specs.Writes.{Grows}
use Rattle.tn_text.proofs.write.+put.Given as goal

abbrev pub invariant-put_all-loop-i : goal.invariant-put_all-loop-i
invariant-put_all-loop-i g l = record {
  written : l.out.items ++ each_after_comma (trees_of (drop l.i l.items.items)) ≡ l.fn.out.items ++ comma_list (trees_of l.items.items);
  grows : Grows l.fn.out.items l.out.items;
}
