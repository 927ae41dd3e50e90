use Rattle.std.proofs.Common.{◌≡◌, ◌++◌, codes, drop, map}
use Rattle.def_explain.specs.Reasons.{bound_within}
use Rattle.tn_head.specs.Views.{binding_seen}
use Rattle.tn_spec.specs.Views.{expr_seen}
use Rattle.tn_fun_words.specs.Views.{name_list_seen}
use Rattle.tn_fun_words.specs.FrontLines.{named_bound}
use Rattle.tn_fun_words.proofs.reason.put_each_within.Given as goal

abbrev pub invariant-loop-binding : goal.invariant-loop-binding
invariant-loop-binding g l =
    l.out.items ++ named_bound (name_list_seen l.names.items) l.between (bound_within (expr_seen l.condition) (map binding_seen (drop l.binding-index l.bindings)))
    ≡ l.fn.out.items ++ named_bound (name_list_seen l.names.items) (codes ": ") (bound_within (expr_seen l.condition) (map binding_seen l.bindings))
