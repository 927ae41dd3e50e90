use Rattle.std.proofs.Common.{◌≡◌, ◌+◌}
use Rattle.tn_term.specs.Views.{trees_of}
use Rattle.tn_fun_text.specs.Terms.{terms_from}
use Rattle.tn_fun_text.specs.Clauses.{no_fun_in, parts_at}
use Rattle.tn_fun_text.proofs.clause_check.check_parts.Given as goal

abbrev pub invariant-loop-i : goal.invariant-loop-i
invariant-loop-i g l = no_fun_in (parts_at l.scope l.clause (l.i + 1) (terms_from l.i l.terms)) ≡ no_fun_in (parts_at l.scope l.clause 1 (trees_of l.terms.items))
