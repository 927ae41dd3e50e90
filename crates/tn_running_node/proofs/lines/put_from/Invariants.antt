use Rattle.std.proofs.Common.{◌≡◌, ◌++◌, drop}
use Rattle.std.specs.Prelude.{flat_map}
use Rattle.tn_text.specs.Writes.{Grows}
use Rattle.tn_running_node.specs.Lines.{named_text}
use Rattle.tn_running_node.specs.Views.{lines_seen}
use Rattle.tn_running_node.proofs.lines.put_from.Given as goal

abbrev pub invariant-loop-place : goal.invariant-loop-place
invariant-loop-place g l = record {
  written : l.out.items ++ flat_map (named_text l.name l.mark) (drop l.place (lines_seen l.lines)) ≡ l.fn.out.items ++ flat_map (named_text l.name l.mark) (drop l.from (lines_seen l.lines));
  grows : Grows l.fn.out.items l.out.items;
}
