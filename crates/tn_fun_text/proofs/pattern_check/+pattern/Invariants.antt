use Rattle.std.proofs.Common.{◌≡◌, ◌≤◌}
use Rattle.def_fun.specs.FunTexts.{patterns_of_terms}
use Rattle.tn_term.specs.Views.{trees_of}
use Rattle.tn_fun_text.specs.Terms.{terms_from}
use Rattle.tn_fun_text.specs.Patterns.{greatest_in}
use Rattle.tn_fun_text.proofs.pattern_check.+pattern.Given as goal

abbrev pub invariant-check_patterns-loop-i : goal.invariant-check_patterns-loop-i
invariant-check_patterns-loop-i g l = record {
  greatest : greatest_in (patterns_of_terms l.greatest (terms_from l.i l.terms)) ≡ greatest_in (patterns_of_terms l.fn.greatest (trees_of l.terms.items));
  few : l.greatest ≤ 999;
}
