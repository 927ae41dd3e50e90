-- Worked rows, computed: the two listings of a send that races with a command, and what is kept of them for each question.
use Rattle.std.proofs.Common.{◌≡◌, ℕ, List, [], ◌∷◌, ◌++◌, true, false, codes, refl}
use Rattle.std.specs.Prelude.{Some, None}
use Rattle.std.specs.Fmt.{digits}
use Rattle.def_term.specs.Tree.{Tree, pid}
use Rattle.def_term.specs.Text.{is_written_bare}
use Rattle.def_term.specs.Names.{Name, word}
use Rattle.def_spec.specs.Matching.{Pattern, anything, only_term, in_tuple, no_patterns, and_pattern}
use Rattle.def_script.specs.Program.{Program, send}
use Rattle.def_run.specs.Run.{moves}
use Rattle.def_run.specs.Round.{pass}
use Rattle.def_run.proofs.Samples.{number, braces, function, entry, program, creates, sets}
use Rattle.def_explore.specs.Output.{kept_listings, session_texts, closing_line, exploration_text, search_text}
use Rattle.def_explore.specs.Rests.{all_messages, by_process, kept_messages, kept_by_process, kept_in, each_process}
use Rattle.def_explore.specs.Alike.{IsStateAlike}
use Rattle.def_explore.specs.Answers.{RestEntry, IsJournalFrom, AreDistinct}
use Rattle.def_explore.specs.Words.{shows, never, sometimes, word_of, Demand, only_always, only_never, only_sometimes, PatternQuestion, refutes}

-- 100 calls go, sends 1 to 101, which isn't there, and ends; the two commands trace its sends
abbrev race : Program
race = program
    (function "go" [] (send (pid 101) (number 1) ∷ []) ∷ [])
    (entry "go" [] ∷ [])
    (creates "s" "t" ∷ sets "s" (word "all") ("send" ∷ []) ∷ [])

abbrev asked : List Name
asked = codes "s" ∷ []

-- the commands, then the process; and the other way round
abbrev traced : List ℕ
traced = 0 ∷ 0 ∷ 100 ∷ 100 ∷ 100 ∷ []

abbrev untraced : List ℕ
untraced = 100 ∷ 100 ∷ 100 ∷ 0 ∷ 0 ∷ []

abbrev message : Tree
message = braces (word "trace" ∷ pid 100 ∷ word "send_to_non_existing_process" ∷ number 1 ∷ pid 101 ∷ [])

-- ---- the runs

-- each pick moves, and after that no pick of a pass does
traced_rests : moves race (traced ++ pass) ≡ traced
traced_rests = refl

untraced_rests : moves race (untraced ++ pass) ≡ untraced
untraced_rests = refl

-- it goes on from the first command, whichever idle picks come before
goes_on_from : IsJournalFrom race (7 ∷ 0 ∷ []) traced
goes_on_from = record { more = 0 ∷ 100 ∷ 100 ∷ 100 ∷ []; goes_on = refl; moved = refl }

-- a command and the call of a process lead to the same state in either order
either_order : IsStateAlike all_messages asked race (0 ∷ 100 ∷ []) (100 ∷ 0 ∷ [])
either_order = record { place = refl; sessions = (refl, tt); kept = refl }

-- ---- what is kept

all_kept : kept_in all_messages asked race traced ≡ kept_messages ((message ∷ []) ∷ [])
all_kept = refl

nothing_kept : kept_in all_messages asked race untraced ≡ kept_messages ([] ∷ [])
nothing_kept = refl

-- the messages of 101, of 100 and of 102
kept_by_pid : each_process (101 ∷ 100 ∷ 102 ∷ []) (message ∷ message ∷ []) ≡ [] ∷ (message ∷ message ∷ []) ∷ [] ∷ []
kept_by_pid = refl

-- {trace,'_',send_to_non_existing_process,1,'_'}, and the same with 2
abbrev of_number : ℕ → Pattern
of_number n =
    in_tuple (and_pattern (only_term (word "trace")) (and_pattern anything (and_pattern (only_term (word "send_to_non_existing_process"))
    (and_pattern (only_term (number n)) (and_pattern anything no_patterns)))))

-- ---- entries and words

-- the two listings
abbrev entries : List RestEntry
entries = record { kept = kept_messages ((message ∷ []) ∷ []); journal = traced } ∷ record { kept = kept_messages ([] ∷ []); journal = untraced } ∷ []

two_listings : AreDistinct entries
two_listings = ((λ e. cc, tt), (tt, tt))

-- a run in which the second command comes after the send has the second listing
late_command : kept_in all_messages asked race (0 ∷ 100 ∷ 100 ∷ 0 ∷ 100 ∷ []) ≡ kept_messages ([] ∷ [])
late_command = refl

-- so a match is shown sometimes: here, and not here
shown : shows (of_number 1) (kept_in all_messages asked race traced) ≡ true
shown = refl

missed : shows (of_number 1) (kept_in all_messages asked race untraced) ≡ false
missed = refl

shown_by_process : shows (of_number 1) (kept_in by_process asked race traced) ≡ true
shown_by_process = refl

shown_sometimes : word_of (of_number 1) entries true ≡ Some (sometimes traced untraced)
shown_sometimes = refl

-- another number never is
never_shown : word_of (of_number 2) entries true ≡ Some (never traced)
never_shown = refl

-- two runs of both kinds are enough; one alone says nothing of those that weren't tried
shown_before_the_end : word_of (of_number 1) entries false ≡ Some (sometimes traced untraced)
shown_before_the_end = refl

unknown_before_the_end : word_of (of_number 2) entries false ≡ None
unknown_before_the_end = refl

-- ---- demands

-- {trace,'_',send_to_non_existing_process,1,'_'} as a term, with a demand
abbrev question : Demand → PatternQuestion
question demand = record {
  term = braces (word "trace" ∷ word "_" ∷ word "send_to_non_existing_process" ∷ number 1 ∷ word "_" ∷ []);
  pattern = of_number 1;
  demand = demand;
}

always_is_refuted : refutes entries true (question only_always) ≡ true
always_is_refuted = refl

never_is_refuted : refutes entries true (question only_never) ≡ true
never_is_refuted = refl

sometimes_is_met : refutes entries true (question only_sometimes) ≡ false
sometimes_is_met = refl

-- ---- text

abbrev with_tracer : List (Name × Name)
with_tracer = (codes "s", codes "t") ∷ []

text_of_both : exploration_text with_tracer entries 12 true ≡ codes "== listing 1 of 2: journal 0 0 100 100 100\n== session s tracer t\n{trace,<0.100.0>,send_to_non_existing_process,1,<0.101.0>}\n== listing 2 of 2: journal 100 100 100 0 0\n== session s tracer t\n== explored\ncomplete: 12 states, 2 listings\n"
unfolding is_written_bare digits
text_of_both = refl

-- the limit came first
text_of_none : exploration_text with_tracer [] 1 false ≡ codes "== explored\nnot complete: 1 state was met\n"
unfolding digits
text_of_none = refl

text_of_more : closing_line 2 1 false ≡ codes "not complete: 2 states were met\n"
unfolding digits
text_of_more = refl

-- a script without forms is at rest at once
text_of_nothing : exploration_text [] (record { kept = kept_messages []; journal = [] } ∷ []) 1 true ≡ codes "== listing 1 of 1: journal\n== explored\ncomplete: 1 state, 1 listing\n"
unfolding digits
text_of_nothing = refl

-- the messages of 101 come after those of 100, whatever their order was
text_by_process : session_texts with_tracer (kept_listings (kept_by_process ((((number 1 ∷ []) ∷ [] ∷ (number 2 ∷ number 3 ∷ []) ∷ [])) ∷ []))) ≡ codes "== session s tracer t\n1\n2\n3\n"
unfolding is_written_bare digits
text_by_process = refl

-- the word of a pattern, and that it isn't as demanded
text_of_words : search_text with_tracer (question only_always ∷ []) entries 12 true ≡ codes "== session s tracer t\nsometimes: {trace,'_',send_to_non_existing_process,1,'_'}\nrefuted: always\nshown by 0 0 100 100 100\nnot by 100 100 100 0 0\n== explored\ncomplete: 12 states, 2 listings\n"
unfolding is_written_bare digits
text_of_words = refl
