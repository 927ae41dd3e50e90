-- Worked rows, computed: the states of small runs.
use Rattle.std.proofs.Common.{◌≡◌, [], ◌∷◌, ◌++◌, codes, refl, Some, None}
use Rattle.std.specs.Fmt.{digits}
use Rattle.def_term.specs.Names.{word}
use Rattle.def_term.specs.Text.{is_written_bare}
use Rattle.def_term.specs.Tree.{Tree, pid, list, none}
use Rattle.def_script.specs.Program.{Command, Program, send, receive, set_function, set_send, set_receive}
use Rattle.def_run.proofs.Samples.{braces, brackets, function, entry, call_named, program, creates, destroys, sets, mfa_of}
use Rattle.def_run.specs.View.{view}
use Rattle.def_state.specs.Lines.{terms_line, pair_term}
use Rattle.def_state.specs.SessionTexts.{flags_term, match_spec_term, frame_term, text_by_view}
use Rattle.def_state.specs.States.{state_text}

-- ---- a whole state

-- a process that sends `hi` to another, which takes it; s1 traces sends, and s2 is created later
abbrev one_send : Program
one_send =
    program (function "go" [] (send (pid 101) (word "hi") ∷ []) ∷ function "peer" [] (receive None ∷ []) ∷ []) (entry "go" [] ∷ entry "peer" [] ∷ [])
    (creates "s1" "t1" ∷ sets "s1" (word "all") ("send" ∷ []) ∷ creates "s2" "t2" ∷ [])

-- the message is in the mailbox after the fifth move; the sixth pick takes it out
five_moves : state_text None one_send (0 ∷ 0 ∷ 100 ∷ 100 ∷ 101 ∷ 101 ∷ []) 5
    ≡ codes "== session s1 tracer t1\nlive\n<0.100.0> {flags,[send]}\n<0.101.0> {flags,[send]}\nnew_processes {flags,[send]}\n== session s2 tracer t2\nabsent\n== process <0.100.0> {m,go,0}\nrunnable\n{frame,1} {m,go,0} {step,2} {'Self',<0.100.0>}\n{messages,[]}\n{links,[]}\n== process <0.101.0> {m,peer,0}\nrunnable\n{frame,1} {m,peer,0} {step,1} {'Self',<0.101.0>}\n{messages,[hi]}\n{links,[]}\n"
unfolding is_written_bare digits
five_moves = refl

-- before any move each process has its entry call to make; s1 alone is asked for
no_move : state_text (Some (codes "s1")) one_send (0 ∷ 0 ∷ []) 0
    ≡ codes "== session s1 tracer t1\nabsent\n== process <0.100.0> {m,go,0}\nrunnable\n{messages,[]}\n{links,[]}\n== process <0.101.0> {m,peer,0}\nrunnable\n{messages,[]}\n{links,[]}\n"
unfolding is_written_bare digits
no_move = refl

-- ---- the text of a session

-- a specification that marks each call
abbrev marking : Tree
marking = brackets (braces (word "_" ∷ brackets [] ∷ brackets (braces (word "return_trace" ∷ []) ∷ []) ∷ []) ∷ [])

-- a function command of s
abbrev sets_function : Tree → Tree → Command
sets_function mfa spec = set_function (codes "s") mfa spec (brackets [])

-- m:go/0 calls m:f/0; a refused command and a newer one for another function come after the one that marks
abbrev one_call : Program
one_call =
    program (function "go" [] (call_named "f" [] ∷ []) ∷ function "f" [] [] ∷ function "g" [] [] ∷ []) (entry "go" [] ∷ [])
    (creates "s" "t" ∷ sets "s" (pid 100) ("arity" ∷ "call" ∷ []) ∷ sets_function (mfa_of "f" 0) marking ∷ sets_function (mfa_of "f" 0) (word "no") ∷ sets_function (mfa_of "go" 0) (word "true")
    ∷ set_send (codes "s") (word "false") ∷ set_receive (codes "s") marking ∷ set_receive (codes "s") (word "true") ∷ sets_function (mfa_of "g" 0) (word "false") ∷ [])

-- flags are in their own order, functions in that of the script, and the frame of the call has a mark
settings_of_a_call : text_by_view (view (codes "s") one_call (0 ∷ 0 ∷ 0 ∷ 0 ∷ 0 ∷ 0 ∷ 0 ∷ 0 ∷ 0 ∷ 100 ∷ 100 ∷ []))
    ≡ terms_line (word "live" ∷ [])
    ++ terms_line (pid 100 ∷ flags_term (word "call" ∷ word "arity" ∷ []) ∷ [])
    ++ terms_line (mfa_of "go" 0 ∷ pair_term (word "traced") (word "global") ∷ match_spec_term (list none) ∷ [])
    ++ terms_line (mfa_of "f" 0 ∷ pair_term (word "traced") (word "global") ∷ match_spec_term marking ∷ [])
    ++ terms_line (word "send" ∷ match_spec_term (word "false") ∷ [])
    ++ terms_line (pid 100 ∷ frame_term 2 ∷ word "return_trace" ∷ [])
unfolding is_written_bare digits
settings_of_a_call = refl

-- one that is destroyed has no settings
destroyed_lines : text_by_view (view (codes "s") (record one_call { commands = creates "s" "t" ∷ sets "s" (word "all") ("call" ∷ []) ∷ destroys "s" ∷ [] }) (0 ∷ 0 ∷ 0 ∷ [])) ≡ terms_line (word "destroyed" ∷ [])
unfolding is_written_bare digits
destroyed_lines = refl
