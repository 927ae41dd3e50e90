use Rattle.std.proofs.Common.{[]}
use Rattle.def_wording.specs.ShapeTexts.{numbered_reason, of_step, step_shape_reason}
use Rattle.tn_term.specs.Views.{tree_of}
use Rattle.tn_refusal.proofs.Firsts.{FirstSo}
use Rattle.tn_refusal.proofs.shape_reasons.listed_steps_reason.Given as goal

abbrev pub invariant-loop-i : goal.invariant-loop-i
invariant-loop-i g l = FirstSo (numbered_reason of_step step_shape_reason) tree_of [] l.fn.terms l.i
