use Rattle.std.proofs.Common.{true, false, map, sym, ◌∙◌}
use Rattle.def_script.specs.Limits.{STEPS}
use Rattle.tn_script.specs.Views.{step_of}
use Rattle.tn_program.proofs.Positions.{late_is}
use Rattle.tn_program.proofs.items.late_step.Goals as goal

pub returns-then-is_long : goal.returns-then-is_long
returns-then-is_long g c = late_is STEPS (map (step_of {A = g.row.A.Denot}) c.args.steps.now) true (sym c.if-is_long.true ∙ c.is_long.ensures)

pub returns-else-is_long : goal.returns-else-is_long
returns-else-is_long g c = late_is STEPS (map (step_of {A = g.row.A.Denot}) c.args.steps.now) false (sym c.if-is_long.false ∙ c.is_long.ensures)
