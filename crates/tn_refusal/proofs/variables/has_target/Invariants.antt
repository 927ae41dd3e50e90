use Rattle.std.proofs.Common.{◌≡◌, map, drop}
use Rattle.std.specs.List.{list_any}
use Rattle.def_term.specs.Text.{is_among}
use Rattle.tn_program.specs.Variables.{target_names}
use Rattle.tn_script.specs.Views.{step_of}
use Rattle.tn_refusal.proofs.variables.has_target.Given as goal

abbrev pub invariant-loop-step : goal.invariant-loop-step
invariant-loop-step g l =
    list_any (λ s. is_among (target_names s) l.fn.name) (map step_of l.fn.steps) ≡ list_any (λ s. is_among (target_names s) l.fn.name) (map step_of (drop l.step-index l.fn.steps))
