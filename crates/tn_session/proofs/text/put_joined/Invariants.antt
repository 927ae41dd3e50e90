use Rattle.std.proofs.Common.{◌≡◌, ◌++◌, map, drop}
use Rattle.def_term.specs.Tree.{of_elements}
use Rattle.def_term.specs.Text.{comma_list, each_after_comma}
use Rattle.tn_term.specs.SharedTree.{shared_tree}
use Rattle.tn_text.specs.Writes.{Grows}
use Rattle.tn_session.proofs.text.put_joined.Given as goal

abbrev pub invariant-loop-i : goal.invariant-loop-i
invariant-loop-i g l = record {
  written : l.out.items ++ each_after_comma (of_elements (map shared_tree (drop l.i l.args.items))) ≡ l.fn.out.items ++ comma_list (of_elements (map shared_tree l.args.items));
  grows : Grows l.fn.out.items l.out.items;
}
