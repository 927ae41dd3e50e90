use Rattle.tn_script.specs.Views.{form_of}
use Rattle.tn_refusal.specs.RuleViews.{callee_seen, is_alike}
use Rattle.tn_refusal.proofs.NearestForms.{IsFurther}
use Rattle.tn_refusal.proofs.nearest.first_alike.Given as goal

abbrev pub invariant-loop-i : goal.invariant-loop-i
invariant-loop-i g l = IsFurther (is_alike l.fn.likeness (callee_seen l.fn.callee)) form_of l.fn.forms l.i
