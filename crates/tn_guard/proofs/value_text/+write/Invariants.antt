use Rattle.std.proofs.Common.{◌≡◌, ◌++◌, ◌+◌, ◌*◌}
use Rattle.def_term.specs.Tree.{depth, greatest_depth}
use Rattle.def_term.specs.Text.{comma_list, each_after_comma}
use Rattle.tn_text.specs.Writes.{Grows}
use Rattle.tn_guard.specs.Views.{value_seen, list_view_seen}
use Rattle.tn_guard.proofs.Places.{rest_from}
use Rattle.tn_guard.proofs.value_text.+write.Given as goal

abbrev pub decreases-write_value : goal.decreases-write_value
decreases-write_value g l = 3 * depth (value_seen l.value)

abbrev pub decreases-put_enclosed : goal.decreases-put_enclosed
decreases-put_enclosed g l = 3 * greatest_depth (list_view_seen l.parts) + 2

abbrev pub decreases-put_parts : goal.decreases-put_parts
decreases-put_parts g l = 3 * greatest_depth (list_view_seen l.parts) + 1

abbrev pub invariant-put_parts-loop-i : goal.invariant-put_parts-loop-i
invariant-put_parts-loop-i g l = record {
  written : l.out.items ++ each_after_comma (rest_from l.i (list_view_seen l.parts)) ≡ l.fn.out.items ++ comma_list (list_view_seen l.parts);
  grows : Grows l.fn.out.items l.out.items;
}
