use Rattle.std.proofs.Common.{◌≡◌}
use Rattle.tn_fun_text.specs.Terms.{terms_from}
use Rattle.tn_fun_text.specs.Reasons.{no_fun_reason}
use Rattle.tn_fun_text.specs.Checks.{exprs_at}
use Rattle.tn_fun_text.proofs.check.+check.Given as goal

abbrev pub invariant-check_from-loop-i : goal.invariant-check_from-loop-i
invariant-check_from-loop-i g l = no_fun_reason (exprs_at l.scope (terms_from l.i l.terms)) ≡ no_fun_reason (exprs_at l.scope (terms_from l.from l.terms))
