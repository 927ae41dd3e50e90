use Rattle.std.proofs.Common.{◌≡◌}
use Rattle.def_fun.specs.FunTexts.{have_list}
use Rattle.tn_fun_text.specs.Terms.{terms_from}
use Rattle.tn_fun_text.proofs.lists.+list.Given as goal

abbrev pub invariant-has_list_from-loop-i : goal.invariant-has_list_from-loop-i
invariant-has_list_from-loop-i g l = have_list (terms_from l.i l.terms) ≡ have_list (terms_from l.from l.terms)
