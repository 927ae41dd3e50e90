use Rattle.std.proofs.Common.{◌≡◌, ◌++◌, drop, flat_map, map}
use Rattle.def_explain.specs.Texts.{binding_line}
use Rattle.tn_head.specs.Views.{binding_seen}
use Rattle.tn_text.specs.Writes.{Grows}
use Rattle.tn_verdict.proofs.spec_test.put_each.Given as goal

abbrev pub invariant-loop-binding : goal.invariant-loop-binding
invariant-loop-binding g l = record {
  written : l.out.items ++ flat_map binding_line (map binding_seen (drop l.binding-index l.bindings)) ≡ l.fn.out.items ++ flat_map binding_line (map binding_seen l.bindings);
  grows : Grows l.fn.out.items l.out.items;
}
