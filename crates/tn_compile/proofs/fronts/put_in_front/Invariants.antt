use Rattle.std.proofs.Common.{◌≡◌, ◌≤◌, length}
use Rattle.tn_code.specs.Views.{instructions_of}
use Rattle.tn_compile.specs.Heads.{in_front}
use Rattle.tn_compile.specs.Views.{code_left}
use Rattle.tn_compile.proofs.fronts.put_in_front.Given as goal

abbrev pub invariant-loop-step : goal.invariant-loop-step
invariant-loop-step g l = record {
  longer : length l.initial.code.items ≤ length l.code.items;
  seen : in_front l.left (instructions_of l.steps.items) (code_left l.code) ≡ in_front l.left (instructions_of l.initial.steps.items) (code_left l.initial.code);
}

abbrev pub decreases-loop-step : goal.decreases-loop-step
decreases-loop-step g l = length l.steps.items
