use Rattle.std.proofs.Common.{◌≡◌, ◌++◌, []}
use Rattle.tn_term.specs.Views.{trees_of}
use Rattle.tn_spec.specs.Views.{dialect_of}
use Rattle.tn_fun_text.specs.Terms.{terms_from}
use Rattle.tn_fun_text.specs.Texts.{clauses_text}
use Rattle.tn_fun_text.proofs.clause_text.put_clauses.Given as goal

abbrev pub invariant-loop-i : goal.invariant-loop-i
invariant-loop-i g l = l.out.items ++ clauses_text (dialect_of l.dialect) l.between (terms_from l.i l.terms) ≡ l.fn.out.items ++ clauses_text (dialect_of l.dialect) [] (trees_of l.terms.items)
