use Rattle.std.proofs.Common.{◌≡◌, ◌-◌, ◌^◌, min, map, take}
use Rattle.std.specs.List.{sum_by, count_by}
use Rattle.def_script.specs.Rules.{commands_of_form, is_creation}
use Rattle.tn_script.specs.Views.{form_of}
use Rattle.tn_program.proofs.counts.all_creations.Given as goal

abbrev pub invariant-loop-form : goal.invariant-loop-form
invariant-loop-form g l = l.total ≡ min (sum_by (λ y. count_by is_creation (commands_of_form y)) (map (form_of {A = g.row.A.Denot}) (take l.form-index l.fn.forms))) (2 ^ 64 - 1)
