use Rattle.test_pool.proofs.gates.an_answer_is_there_when_it_is_told.Given as goal

-- the log that was just opened, and the core's program
abbrev pub ghosts-two_workers : goal.ghosts-two_workers
ghosts-two_workers g a = record { log = a.new_log; program = a.core.program }
