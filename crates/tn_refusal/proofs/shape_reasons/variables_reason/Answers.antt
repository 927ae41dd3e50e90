use Rattle.std.proofs.Common.{[], sym, arith}
use Rattle.def_script.specs.Shapes.{variable_in}
use Rattle.def_wording.specs.ShapeTexts.{variable_reason}
use Rattle.tn_term.specs.Views.{tree_of}
use Rattle.tn_refusal.proofs.Firsts.{found_here, found_later, found_nowhere}
use Rattle.tn_refusal.proofs.ShapeReasons.{unread, read}
use Rattle.tn_refusal.proofs.shape_reasons.variables_reason.Goals as goal

pub returns-then-not-is_bindable : goal.returns-then-not-is_bindable
returns-then-not-is_bindable g c =
    found_here (λ before t. variable_reason t) tree_of [] c.args.terms.now c.loop-i.i c.index-terms-i.result _ (omega arith) c.index-terms-i.is
    (sym (unread (variable_in (tree_of c.index-terms-i.result)) _ c.is_bindable.result c.is_bindable.ensures c.if-not-is_bindable.true)) c.loop-i.invariant

pub loop-i-preserved : goal.loop-i-preserved
loop-i-preserved g c =
    found_later (λ before t. variable_reason t) tree_of [] c.args.terms.now c.loop-i.i c.index-terms-i.result (omega arith) c.index-terms-i.is
    (sym (read (variable_in (tree_of c.index-terms-i.result)) _ c.is_bindable.result c.is_bindable.ensures c.if-not-is_bindable.false)) c.loop-i.invariant

pub returns : goal.returns
returns g c = found_nowhere (λ before t. variable_reason t) tree_of [] c.args.terms.now c.loop-i.i (omega arith) c.loop-i.invariant
