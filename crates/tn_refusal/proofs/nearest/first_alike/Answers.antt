use Rattle.std.proofs.Common.{arith}
use Rattle.tn_script.specs.Views.{form_of}
use Rattle.tn_refusal.specs.RuleViews.{callee_seen, is_alike}
use Rattle.tn_refusal.proofs.NearestForms.{alike_found, alike_later, alike_nowhere}
use Rattle.tn_refusal.proofs.nearest.first_alike.Goals as goal

pub returns-in-Some : goal.returns-in-Some
returns-in-Some g c =
    alike_found (is_alike c.args.likeness (callee_seen c.args.callee.now)) form_of c.args.forms.now c.loop-i.i c.index-forms-i.result _ (omega arith) c.index-forms-i.is
    c.in-Some.ensures c.loop-i.invariant

pub loop-i-preserved : goal.loop-i-preserved
loop-i-preserved g c =
    alike_later (is_alike c.args.likeness (callee_seen c.args.callee.now)) form_of c.args.forms.now c.loop-i.i c.index-forms-i.result (omega arith) c.index-forms-i.is
    c.in-None.ensures c.loop-i.invariant

pub returns : goal.returns
returns g c = alike_nowhere (is_alike c.args.likeness (callee_seen c.args.callee.now)) form_of c.args.forms.now c.loop-i.i (omega arith) c.loop-i.invariant
