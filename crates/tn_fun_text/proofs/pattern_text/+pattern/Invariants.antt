use Rattle.std.proofs.Common.{◌≡◌, ◌++◌, []}
use Rattle.tn_term.specs.Views.{trees_of}
use Rattle.tn_fun_text.specs.Terms.{terms_from}
use Rattle.tn_fun_text.specs.Texts.{patterns_text}
use Rattle.tn_fun_text.proofs.pattern_text.+pattern.Given as goal

abbrev pub invariant-put_each_pattern-loop-i : goal.invariant-put_each_pattern-loop-i
invariant-put_each_pattern-loop-i g l = l.out.items ++ patterns_text l.between (terms_from l.i l.terms) ≡ l.fn.out.items ++ patterns_text [] (trees_of l.terms.items)
