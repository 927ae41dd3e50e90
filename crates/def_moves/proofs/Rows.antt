-- Worked rows: the pieces of texts of moves, and the picks of directives in a run of a small program.
use Rattle.std.proofs.Common.{◌≡◌, [], ◌∷◌, Some, codes, refl, inl, inr, arith}
use Rattle.def_term.specs.Tree.{pid}
use Rattle.def_term.specs.Names.{word}
use Rattle.def_term.specs.Text.{is_written_bare}
use Rattle.std.specs.Fmt.{digits}
use Rattle.def_script.specs.Program.{Program, send, receive}
use Rattle.def_run.proofs.Samples.{function, entry, program, creates, number}
use Rattle.def_moves.specs.Directives.{times, until_idle, everybody, picks_of_directives, CONTROL_FIRST}
use Rattle.def_moves.specs.Texts.{first_piece, after_gap, after_piece, pids_named, StandsFor}

-- ---- pieces

a_count : first_piece (codes "go*3 0!") ≡ record { mover = codes "go"; amount = codes "*3" }
a_count = refl

in_quotes_all_goes_on : first_piece (codes "'a b*!%'! x") ≡ record { mover = codes "'a b*!%'"; amount = codes "!" }
in_quotes_all_goes_on = refl

a_backslash_in_quotes : first_piece (codes "'a\\'b'*2") ≡ record { mover = codes "'a\\'b'"; amount = codes "*2" }
a_backslash_in_quotes = refl

everybody_alone : first_piece (codes "*% all") ≡ record { mover = []; amount = codes "*" }
everybody_alone = refl

a_comment_before : after_gap (codes " % all\n  *") ≡ codes "*"
a_comment_before = refl

what_follows : after_piece (codes "  go*3 0!") ≡ codes " 0!"
what_follows = refl

-- ---- a program of two processes and two commands: 100 sends to 101, which receives

abbrev two : Program
two = program
    (function "go" ("To" ∷ []) (send (word "To") (number 1) ∷ []) ∷ function "rest" [] (receive (Some (codes "X")) ∷ []) ∷ [])
    (entry "go" (pid 101 ∷ []) ∷ entry "rest" [] ∷ [])
    (creates "s" "t" ∷ creates "u" "v" ∷ [])

-- 100 calls go, sends and ends; 101 calls rest, receives and ends
a_round : picks_of_directives two 100 (everybody ∷ []) ≡ 0 ∷ 100 ∷ 101 ∷ 0 ∷ 100 ∷ 101 ∷ 100 ∷ 101 ∷ []
a_round = refl

commands_first : picks_of_directives two 100 CONTROL_FIRST ≡ 0 ∷ 0 ∷ 100 ∷ 101 ∷ 100 ∷ 101 ∷ 100 ∷ 101 ∷ []
commands_first = refl

commands_first_within_three : picks_of_directives two 3 CONTROL_FIRST ≡ 0 ∷ 0 ∷ 100 ∷ []
commands_first_within_three = refl

-- 101 waits after its call
one_until_idle : picks_of_directives two 100 (until_idle 101 ∷ times 2 100 ∷ until_idle 101 ∷ times 5 0 ∷ []) ≡ 101 ∷ 100 ∷ 100 ∷ 101 ∷ 101 ∷ 0 ∷ 0 ∷ []
one_until_idle = refl

the_pid_of_a_name : pids_named two (codes "rest") ≡ 101 ∷ []
unfolding is_written_bare digits
the_pid_of_a_name = refl

no_pid_of_a_name : pids_named two (codes "rest!") ≡ []
unfolding is_written_bare digits
no_pid_of_a_name = refl

-- a name, a number with a count, and everybody
a_text : StandsFor two (codes "rest! 100*2 % twice\n*") (until_idle 101 ∷ times 2 100 ∷ everybody ∷ [])
unfolding is_written_bare digits
a_text = (omega arith, (inr (refl, refl), refl), (omega arith, (inl (refl, refl, omega arith), inr (refl, omega arith)), (omega arith, (refl, refl), refl)))
