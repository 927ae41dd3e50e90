use Rattle.std.proofs.Common.{[], map}
use Rattle.tn_program.specs.Declarations.{step_breaks}
use Rattle.tn_script.specs.Views.{step_of, form_of}
use Rattle.tn_program.proofs.Positions.{PositionSo}
use Rattle.tn_program.proofs.items.breaking_step.Given as goal

abbrev pub invariant-loop-i : goal.invariant-loop-i
invariant-loop-i g l = PositionSo (λ before s. step_breaks l.fn.rule (map (form_of {A = g.row.A.Denot}) l.fn.forms) l.fn.of_module s) (step_of {A = g.row.A.Denot}) [] l.fn.steps l.i
