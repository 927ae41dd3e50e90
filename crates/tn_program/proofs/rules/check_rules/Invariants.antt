use Rattle.tn_script.specs.Views.{form_of}
use Rattle.tn_program.proofs.First.{FirstSo}
use Rattle.tn_program.proofs.rules.check_rules.Given as goal

abbrev pub invariant-loop-i : goal.invariant-loop-i
invariant-loop-i g l = FirstSo (form_of {A = g.row.A.Denot}) l.fn.forms l.i
