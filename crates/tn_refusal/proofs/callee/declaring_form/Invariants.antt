use Rattle.std.proofs.Common.{[]}
use Rattle.def_wording.specs.RuleTexts.{again_at}
use Rattle.tn_script.specs.Views.{form_of}
use Rattle.tn_refusal.specs.RuleViews.{callee_seen}
use Rattle.tn_refusal.proofs.Firsts.{FirstSo}
use Rattle.tn_refusal.proofs.callee.declaring_form.Given as goal

abbrev pub invariant-loop-i : goal.invariant-loop-i
invariant-loop-i g l = FirstSo (again_at (callee_seen l.fn.callee)) form_of [] l.fn.earlier l.i
