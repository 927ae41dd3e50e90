use Rattle.std.proofs.Common.{◌≡◌, take}
use Rattle.def_session.specs.Commands.{all_changed}
use Rattle.tn_term.specs.Views.{alive_of}
use Rattle.tn_flags.specs.Views.{flags_of, table_of}
use Rattle.tn_session.proofs.command.change_living.Given as goal

abbrev pub invariant-loop-place : goal.invariant-loop-place
invariant-loop-place l = table_of l.table ≡ all_changed l.on (flags_of l.flags) (take l.place (alive_of l.alive)) (table_of l.initial.table)
