use Rattle.tn_run.proofs.live.run_program.Given as goal

-- the log that was just opened, and the core's program
abbrev pub ghosts-run_core : goal.ghosts-run_core
ghosts-run_core g a = record { log = a.new_log; program = a.core.program }
