use Rattle.std.proofs.Common.{◌≡◌, ◌++◌, codes, drop, map}
use Rattle.def_explain.specs.Reasons.{bound_within}
use Rattle.def_explain.specs.Texts.{bound_texts}
use Rattle.tn_head.specs.Views.{binding_seen}
use Rattle.tn_spec.specs.Views.{expr_seen}
use Rattle.tn_text.specs.Writes.{Grows}
use Rattle.tn_verdict.proofs.reason_text.put_each_within.Given as goal

abbrev pub invariant-loop-binding : goal.invariant-loop-binding
invariant-loop-binding g l = record {
  written : l.out.items ++ bound_texts l.between (bound_within (expr_seen l.condition) (map binding_seen (drop l.binding-index l.bindings)))
      ≡ l.fn.out.items ++ bound_texts (codes ": ") (bound_within (expr_seen l.condition) (map binding_seen l.bindings));
  grows : Grows l.fn.out.items l.out.items;
}
