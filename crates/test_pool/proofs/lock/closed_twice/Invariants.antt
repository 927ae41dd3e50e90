use Rattle.test_pool.proofs.lock.closed_twice.Given as goal

-- the log that was just opened, and the core's program
abbrev pub ghosts-close_with_a_board : goal.ghosts-close_with_a_board
ghosts-close_with_a_board g a = record { log = a.new_log; program = a.core.program }
