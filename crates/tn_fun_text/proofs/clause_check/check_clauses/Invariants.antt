use Rattle.std.proofs.Common.{◌≡◌, ◌+◌}
use Rattle.def_fun.specs.FunTexts.{clauses_printed}
use Rattle.tn_term.specs.Views.{trees_of}
use Rattle.tn_spec.specs.Views.{dialect_of}
use Rattle.tn_fun_text.specs.Terms.{terms_from}
use Rattle.tn_fun_text.specs.Clauses.{no_fun_in}
use Rattle.tn_fun_text.proofs.clause_check.check_clauses.Given as goal

abbrev pub invariant-loop-i : goal.invariant-loop-i
invariant-loop-i g l = no_fun_in (clauses_printed (dialect_of l.dialect) (l.i + 1) (terms_from l.i l.terms)) ≡ no_fun_in (clauses_printed (dialect_of l.dialect) 1 (trees_of l.terms.items))
