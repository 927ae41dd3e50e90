-- Worked rows, computed: groups of messages of a trace, and what a run shows.
use Rattle.std.proofs.Common.{◌≡◌, ℕ, List, [], ◌∷◌, Some, None, refl}
use Rattle.def_term.specs.Tree.{Tree, pid, tuple, list, of_elements, none}
use Rattle.def_term.specs.Names.{word}
use Rattle.def_renaming.specs.Renaming.{with_pair, with_prefix_pairs, renamings, first_renaming}

-- {trace,From,send,hello,To}
abbrev sends : ℕ → ℕ → Tree
sends from to = tuple (of_elements (word "trace" ∷ pid from ∷ word "send" ∷ word "hello" ∷ pid to ∷ []))

-- {trace,Pid,exit,normal}
abbrev exits : ℕ → Tree
exits n = tuple (of_elements (word "trace" ∷ pid n ∷ word "exit" ∷ word "normal" ∷ []))

-- ---- pairs

-- a new pair comes at the end
new_pair : with_pair ((84, 100) ∷ []) 85 101 ≡ Some ((84, 100) ∷ (85, 101) ∷ [])
new_pair = refl

-- one that is there changes nothing
pair_that_is_there : with_pair ((84, 100) ∷ (85, 101) ∷ []) 84 100 ≡ Some ((84, 100) ∷ (85, 101) ∷ [])
pair_that_is_there = refl

-- neither side has two partners
two_partners_here : with_pair ((84, 100) ∷ []) 84 101 ≡ None
two_partners_here = refl

two_partners_there : with_pair ((84, 100) ∷ []) 85 100 ≡ None
two_partners_there = refl

-- a number may be one of both sides
same_number : with_pair ((100, 101) ∷ []) 101 100 ≡ Some ((100, 101) ∷ (101, 100) ∷ [])
same_number = refl

-- ---- one group

-- the run may go on
longer_run : with_prefix_pairs [] (sends 84 85 ∷ []) (sends 100 101 ∷ exits 100 ∷ []) ≡ Some ((84, 100) ∷ (85, 101) ∷ [])
longer_run = refl

-- the trace may not
shorter_run : with_prefix_pairs [] (sends 84 85 ∷ exits 84 ∷ []) (sends 100 101 ∷ []) ≡ None
shorter_run = refl

-- 84 sends to 85, and 85 exits: not 100
another_process : with_prefix_pairs [] (sends 84 85 ∷ exits 85 ∷ []) (sends 100 101 ∷ exits 100 ∷ []) ≡ None
another_process = refl

-- a process that sends to itself isn't one that sends to another
to_itself : with_prefix_pairs [] (sends 84 84 ∷ []) (sends 100 101 ∷ []) ≡ None
to_itself = refl

to_another : with_prefix_pairs [] (sends 84 85 ∷ []) (sends 100 100 ∷ []) ≡ None
to_another = refl

-- a tuple is no list
another_kind : with_prefix_pairs [] (tuple none ∷ []) (list none ∷ []) ≡ None
another_kind = refl

-- ---- groups

-- two workers, 84 and 85: the second one of the run is the first one of the trace
abbrev workers : List (List Tree)
workers = (sends 84 83 ∷ exits 84 ∷ []) ∷ (sends 85 83 ∷ []) ∷ []

abbrev shown : List (List Tree)
shown = (sends 101 100 ∷ []) ∷ (sends 102 100 ∷ exits 102 ∷ []) ∷ []

swapped_workers : first_renaming workers shown ≡ Some ((84, 102) ∷ (83, 100) ∷ (85, 101) ∷ [])
swapped_workers = refl

-- both workers exit in the trace, and one alone in the run: 102 would have two partners
two_exits : first_renaming ((sends 84 83 ∷ exits 84 ∷ []) ∷ (sends 85 83 ∷ exits 85 ∷ []) ∷ []) shown ≡ None
two_exits = refl

-- the first list that a group can begin isn't always the right one
all_renamings : renamings ((sends 84 83 ∷ []) ∷ []) shown ([] ∷ []) ≡ ((84, 101) ∷ (83, 100) ∷ []) ∷ ((84, 102) ∷ (83, 100) ∷ []) ∷ []
all_renamings = refl

second_list : first_renaming ((sends 84 83 ∷ []) ∷ (sends 84 83 ∷ exits 84 ∷ []) ∷ []) shown ≡ Some ((84, 102) ∷ (83, 100) ∷ [])
second_list = refl

-- no groups need no pairs; a group needs a list, even an empty one
no_groups : first_renaming [] [] ≡ Some []
no_groups = refl

no_lists : first_renaming ([] ∷ []) [] ≡ None
no_lists = refl

no_messages : first_renaming ([] ∷ []) ([] ∷ []) ≡ Some []
no_messages = refl
