use Rattle.std.proofs.Common.{[]}
use Rattle.tn_script.specs.Views.{step_of}
use Rattle.tn_refusal.specs.RuleViews.{free_at_step}
use Rattle.tn_refusal.proofs.Firsts.{FirstSo}
use Rattle.tn_refusal.proofs.variables.first_in_steps.Given as goal

abbrev pub invariant-loop-i : goal.invariant-loop-i
invariant-loop-i g l = FirstSo (free_at_step l.fn.params) step_of [] l.fn.steps l.i
