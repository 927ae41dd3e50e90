use Rattle.std.proofs.Common.{◌≡◌, map}
use Rattle.tn_term.specs.Views.{tree_of}
use Rattle.tn_fun_text.specs.Terms.{terms_from}
use Rattle.tn_fun_text.specs.Values.{values_at, values_onto}
use Rattle.tn_fun_text.proofs.values.+value.Given as goal

abbrev pub invariant-values_from-loop-i : goal.invariant-values_from-loop-i
invariant-values_from-loop-i g l = values_onto (map tree_of l.values.items) (values_at l.scope (terms_from l.i l.terms)) ≡ values_at l.scope (terms_from l.from l.terms)
