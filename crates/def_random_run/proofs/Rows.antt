-- Worked rows, computed: numbers of seeds, and random runs of a send that races with a command.
use Rattle.std.proofs.Common.{◌≡◌, List, [], ◌∷◌, true, false, codes, refl}
use Rattle.std.specs.Prelude.{Some, None}
use Rattle.def_term.specs.Tree.{Tree, pid}
use Rattle.def_term.specs.Names.{Name, word}
use Rattle.def_script.specs.Program.{Program, send}
use Rattle.def_run.specs.Round.{pass}
use Rattle.def_run.proofs.Samples.{number, braces, function, entry, program, creates, sets}
use Rattle.def_explore.specs.Rests.{all_messages, by_process, kept_messages, kept_in}
use Rattle.def_random_run.specs.Numbers.{next_seed, seed_mixture, seed_number}
use Rattle.def_random_run.specs.RandomRuns.{moving_picks, is_at_rest, pick_at, random_run}
use Rattle.def_random_run.specs.RandomEntries.{random_runs, random_states, random_entries, keep_same}

-- ---- numbers

pub second_seed : next_seed 0 ≡ 1442695040888963407
second_seed = refl

pub third_seed : next_seed 1442695040888963407 ≡ 1876011003808476466
third_seed = refl

pub a_mixture : seed_mixture 1 ≡ 11400714819323198485
a_mixture = refl

pub a_number : seed_number 1 ≡ 1327217884
a_number = refl

-- the place of 1327217884 among three is 1
pub second_of_three : pick_at (0 ∷ 100 ∷ 101 ∷ []) 1327217884 ≡ Some 100
second_of_three = refl

pub none_of_none : pick_at [] 1327217884 ≡ None
none_of_none = refl

-- ---- runs

-- 100 calls go, sends 1 to 101, which isn't there, and ends; the two commands trace its sends
abbrev race : Program
race = program
    (function "go" [] (send (pid 101) (number 1) ∷ []) ∷ [])
    (entry "go" [] ∷ [])
    (creates "s" "t" ∷ sets "s" (word "all") ("send" ∷ []) ∷ [])

abbrev asked : List Name
asked = codes "s" ∷ []

abbrev message : Tree
message = braces (word "trace" ∷ pid 100 ∷ word "send_to_non_existing_process" ∷ number 1 ∷ pid 101 ∷ [])

-- at first the control list and the process move, and at the end nothing does
pub both_move : moving_picks race pass [] ≡ 0 ∷ 100 ∷ []
both_move = refl

pub not_at_rest : is_at_rest race pass (0 ∷ 0 ∷ []) ≡ false
not_at_rest = refl

pub at_rest : is_at_rest race pass (0 ∷ 0 ∷ 100 ∷ 100 ∷ 100 ∷ []) ≡ true
at_rest = refl

pub a_run : random_run race pass 9 3 [] ≡ 100 ∷ 0 ∷ 100 ∷ 0 ∷ 100 ∷ []
a_run = refl

pub another_run : random_run race pass 9 4 [] ≡ 0 ∷ 0 ∷ 100 ∷ 100 ∷ 100 ∷ []
another_run = refl

-- it stops after so many moves
pub of_two_moves : random_run race pass 2 3 [] ≡ 100 ∷ 0 ∷ []
of_two_moves = refl

-- ---- entries

-- two runs to rest, and one that is cut off, since the others went through 12 states
pub three_runs : random_runs race pass [] 3 5 14 ≡ (100 ∷ 100 ∷ 100 ∷ 0 ∷ 0 ∷ []) ∷ (0 ∷ 0 ∷ 100 ∷ 100 ∷ 100 ∷ []) ∷ (100 ∷ []) ∷ []
three_runs = refl

pub fourteen_states : random_states race pass [] 3 5 14 ≡ 14
fourteen_states = refl

-- there is no third where there is no room for it
pub two_runs : random_states race pass [] 3 5 12 ≡ 12
two_runs = refl

-- the two have another listing each
pub two_entries : random_entries all_messages asked race pass [] 3 5 14 ≡
    record { kept = kept_messages ([] ∷ []); journal = 100 ∷ 100 ∷ 100 ∷ 0 ∷ 0 ∷ [] } ∷
    record { kept = kept_messages ((message ∷ []) ∷ []); journal = 0 ∷ 0 ∷ 100 ∷ 100 ∷ 100 ∷ [] } ∷ []
two_entries = refl

-- where the second has the listing of the first, it adds nothing
pub same_listings : random_runs race pass [] 2 0 100 ≡ (0 ∷ 0 ∷ 100 ∷ 100 ∷ 100 ∷ []) ∷ (100 ∷ 0 ∷ 0 ∷ 100 ∷ 100 ∷ []) ∷ []
same_listings = refl

pub one_entry : random_entries all_messages asked race pass [] 2 0 100 ≡ record { kept = kept_messages ((message ∷ []) ∷ []); journal = 0 ∷ 0 ∷ 100 ∷ 100 ∷ 100 ∷ [] } ∷ []
one_entry = refl

-- what is kept of messages by process is another thing than what is kept of all
pub other_question : keep_same (kept_in all_messages [] race []) (kept_in by_process [] race []) ≡ false
other_question = refl
