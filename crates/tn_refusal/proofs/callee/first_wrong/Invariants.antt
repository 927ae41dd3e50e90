use Rattle.std.proofs.Common.{[], map}
use Rattle.def_wording.specs.RuleTexts.{step_name}
use Rattle.tn_program.specs.Faults.{rule_of}
use Rattle.tn_script.specs.Views.{form_of, step_of}
use Rattle.tn_refusal.proofs.Firsts.{FirstSo}
use Rattle.tn_refusal.proofs.callee.first_wrong.Given as goal

abbrev pub invariant-loop-i : goal.invariant-loop-i
invariant-loop-i g l = FirstSo (step_name (rule_of l.fn.rule) (map form_of l.fn.forms) l.fn.home) step_of [] l.fn.steps l.i
