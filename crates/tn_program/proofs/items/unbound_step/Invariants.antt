use Rattle.std.proofs.Common.{◌≡◌, [], map, take}
use Rattle.def_script.specs.Rules.{any_has_other, bound_before, terms_of}
use Rattle.tn_script.specs.Views.{step_of, function_of}
use Rattle.tn_program.specs.Variables.{names_in, HaveSame}
use Rattle.tn_program.proofs.Positions.{PositionSo}
use Rattle.tn_program.proofs.items.unbound_step.Given as goal

abbrev pub invariant-loop-step : goal.invariant-loop-step
invariant-loop-step g l = record {
  counted : l.passed ≡ l.step-index;
  so_far : PositionSo (λ before s. any_has_other (bound_before (function_of {A = g.row.A.Denot} l.fn.function).params before) (terms_of s)) (step_of {A = g.row.A.Denot}) [] l.step-items l.step-index;
  known : HaveSame (names_in l.bound) (bound_before (function_of {A = g.row.A.Denot} l.fn.function).params (map (step_of {A = g.row.A.Denot}) (take l.step-index l.step-items)));
}
