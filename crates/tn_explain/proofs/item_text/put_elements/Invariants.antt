use Rattle.std.proofs.Common.{◌≡◌, ◌++◌, drop, map}
use Rattle.def_explain.specs.RunTexts.{after_first}
use Rattle.tn_term.specs.Views.{tree_of}
use Rattle.tn_text.specs.Writes.{Grows}
use Rattle.tn_explain.proofs.ItemTexts.{each_behind}
use Rattle.tn_explain.proofs.item_text.put_elements.Given as goal

abbrev pub invariant-loop-i : goal.invariant-loop-i
invariant-loop-i g l = record {
  written : l.out.items ++ each_behind (map tree_of (drop l.i l.elements)) ≡ l.fn.out.items ++ after_first (map tree_of l.elements);
  grows : Grows l.fn.out.items l.out.items;
}
