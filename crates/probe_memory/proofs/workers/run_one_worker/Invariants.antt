use Rattle.probe_memory.proofs.workers.run_one_worker.Given as goal

-- the log that was just opened, and the core's program
abbrev pub ghosts-work_of_one : goal.ghosts-work_of_one
ghosts-work_of_one g a = record { log = a.new_log; program = a.core.program }
