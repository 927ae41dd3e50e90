use Rattle.std.proofs.Common.{◌≡◌, ◌-◌, ◌^◌, min, map, take, cond}
use Rattle.std.specs.List.{sum_by}
use Rattle.def_script.specs.Rules.{is_creation}
use Rattle.tn_flags.specs.Views.{command_of}
use Rattle.tn_program.proofs.counts.creation_total.Given as goal

abbrev pub invariant-loop-command : goal.invariant-loop-command
invariant-loop-command g l = l.total ≡ min (sum_by (λ y. cond (is_creation y) 1 0) (map (command_of {A = g.row.A.Denot}) (take l.command-index l.fn.commands))) (2 ^ 64 - 1)
