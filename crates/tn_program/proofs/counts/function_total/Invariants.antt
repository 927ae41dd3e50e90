use Rattle.std.proofs.Common.{◌≡◌, ◌-◌, ◌^◌, min, map, take, cond}
use Rattle.std.specs.List.{sum_by}
use Rattle.def_script.specs.Rules.{is_function}
use Rattle.tn_script.specs.Views.{form_of}
use Rattle.tn_program.proofs.counts.function_total.Given as goal

abbrev pub invariant-loop-form : goal.invariant-loop-form
invariant-loop-form g l = l.total ≡ min (sum_by (λ y. cond (is_function y) 1 0) (map (form_of {A = g.row.A.Denot}) (take l.form-index l.fn.forms))) (2 ^ 64 - 1)
