use Rattle.std.proofs.Common.{[]}
use Rattle.def_wording.specs.ShapeTexts.{variable_reason}
use Rattle.tn_term.specs.Views.{tree_of}
use Rattle.tn_refusal.proofs.Firsts.{FirstSo}
use Rattle.tn_refusal.proofs.shape_reasons.variables_reason.Given as goal

abbrev pub invariant-loop-i : goal.invariant-loop-i
invariant-loop-i g l = FirstSo (λ before t. variable_reason t) tree_of [] l.fn.terms l.i
