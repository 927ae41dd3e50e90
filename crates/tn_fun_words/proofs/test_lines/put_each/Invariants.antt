use Rattle.std.proofs.Common.{◌≡◌, ◌++◌, drop, flat_map, map}
use Rattle.tn_head.specs.Views.{binding_seen}
use Rattle.tn_fun_words.specs.Views.{name_list_seen}
use Rattle.tn_fun_words.specs.FrontLines.{named_line}
use Rattle.tn_fun_words.proofs.test_lines.put_each.Given as goal

abbrev pub invariant-loop-binding : goal.invariant-loop-binding
invariant-loop-binding g l = l.out.items ++ flat_map (named_line (name_list_seen l.names.items)) (map binding_seen (drop l.binding-index l.bindings)) ≡ l.fn.out.items ++ flat_map (named_line (name_list_seen l.names.items)) (map binding_seen l.bindings)
