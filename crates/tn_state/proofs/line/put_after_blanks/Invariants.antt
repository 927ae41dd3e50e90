use Rattle.std.proofs.Common.{◌≡◌, ◌++◌, map, drop, flat_map}
use Rattle.def_state.specs.Lines.{after_blank}
use Rattle.tn_term.specs.Views.{tree_of}
use Rattle.tn_state.proofs.line.put_after_blanks.Given as goal

abbrev pub invariant-loop-term : goal.invariant-loop-term
invariant-loop-term g l = l.out.items ++ flat_map after_blank (map tree_of (drop l.term-index l.terms)) ≡ l.fn.out.items ++ flat_map after_blank (map tree_of l.terms)
