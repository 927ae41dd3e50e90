use Rattle.std.proofs.Common.{◌≡◌, ◌++◌, drop}
use Rattle.def_script.specs.Script.{creations}
use Rattle.tn_program.specs.Views.{program_of}
use Rattle.tn_command.specs.Notices.{names_after, session_names}
use Rattle.tn_command.proofs.run_outline.session_names.Given as goal

abbrev pub invariant-loop-number : goal.invariant-loop-number
invariant-loop-number l = l.names.items ++ names_after l.between (drop l.number (creations (program_of l.program).commands)) ≡ session_names (program_of l.program)
