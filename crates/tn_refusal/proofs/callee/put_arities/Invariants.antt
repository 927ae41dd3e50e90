use Rattle.std.proofs.Common.{◌≡◌, ◌++◌, map, drop, codes}
use Rattle.def_wording.specs.RuleTexts.{declared_arities, numbers_after}
use Rattle.tn_script.specs.Views.{form_of}
use Rattle.tn_refusal.specs.RuleViews.{callee_seen}
use Rattle.tn_refusal.proofs.callee.put_arities.Given as goal

abbrev pub invariant-loop-form : goal.invariant-loop-form
invariant-loop-form g l =
    l.out.items ++ numbers_after l.between (declared_arities (map form_of (drop l.form-index l.fn.forms)) (callee_seen l.fn.callee))
    ≡ l.fn.out.items ++ numbers_after (codes " is declared with the arity ") (declared_arities (map form_of l.fn.forms) (callee_seen l.fn.callee))
