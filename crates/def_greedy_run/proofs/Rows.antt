-- Worked rows, computed: greedy runs of a send that races with a command.
use Rattle.std.proofs.Common.{◌≡◌, List, [], ◌∷◌, codes, refl}
use Rattle.def_term.specs.Tree.{Tree, pid}
use Rattle.def_term.specs.Names.{Name, word}
use Rattle.def_script.specs.Program.{Program, send}
use Rattle.def_run.specs.Round.{pass}
use Rattle.def_run.proofs.Samples.{number, braces, function, entry, program, creates, sets}
use Rattle.def_explore.specs.Rests.{all_messages}
use Rattle.def_compare.specs.Traces.{begins_trace}
use Rattle.def_greedy_run.specs.GreedyRuns.{greedy_run}

-- the message of the send, with pids of a node
abbrev message : Tree
message = braces (word "trace" ∷ pid 84 ∷ word "send_to_non_existing_process" ∷ number 1 ∷ pid 85 ∷ [])

-- 100 calls go, sends 1 to 101, which isn't there, and ends; the two commands trace its sends
abbrev race : Program
race = program
    (function "go" [] (send (pid 101) (number 1) ∷ []) ∷ [])
    (entry "go" [] ∷ [])
    (creates "s" "t" ∷ sets "s" (word "all") ("send" ∷ []) ∷ [])

abbrev asked : List Name
asked = codes "s" ∷ []

-- the commands come first
pub shows_the_message : greedy_run (begins_trace (message ∷ [])) all_messages asked race pass 9 [] ≡ 0 ∷ 0 ∷ 100 ∷ 100 ∷ 100 ∷ []
shows_the_message = refl

-- without a message it stops before the send, though the run in which 100 comes first has none
pub stops : greedy_run (begins_trace []) all_messages asked race pass 9 [] ≡ 0 ∷ 0 ∷ 100 ∷ []
stops = refl

-- it stops after so many moves
pub of_two_moves : greedy_run (begins_trace (message ∷ [])) all_messages asked race pass 2 [] ≡ 0 ∷ 0 ∷ []
of_two_moves = refl
