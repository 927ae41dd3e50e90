use Rattle.std.proofs.Common.{◌≡◌, map, drop}
use Rattle.std.specs.List.{list_any}
use Rattle.tn_program.specs.Declarations.{step_breaks}
use Rattle.tn_script.specs.Views.{step_of, form_of}
use Rattle.tn_program.proofs.rules.any_against.Given as goal

abbrev pub invariant-loop-step : goal.invariant-loop-step
invariant-loop-step g l = list_any (step_breaks l.fn.rule (map (form_of {A = g.row.A.Denot}) l.fn.forms) l.fn.of_module) (map (step_of {A = g.row.A.Denot}) l.fn.steps) ≡ list_any (step_breaks l.fn.rule (map (form_of {A = g.row.A.Denot}) l.fn.forms) l.fn.of_module) (map (step_of {A = g.row.A.Denot}) (drop l.step-index l.fn.steps))
