-- The text of one process at a moment of a run, in the words of erlang:process_info/2 where it has them (own).
-- Depends on processes, and on whether they wait.
--
-- runnable                                          the process lives, and has a next step
-- waiting                                           it lives, and waits for a message
-- exited                                            it has exited; it has no other line
-- {frame,2} {m,f,1} {step,3} {'Self',<0.100.0>}     a frame by its depth, the newest first: its function, the number of its next step from 1, and each variable with its value. Where the steps are used up the next step is the return of `ok`
-- {messages,[hi]}                                   the mailbox in the order of arrival
-- {links,[<0.101.0>]}                               the processes that it is linked to, by rising pid
-- {signal,noproc}                                   the reason of an exit signal that waits, where one does
use Rattle.std.specs.Prelude.{ℕ, suc, ◌+◌, Bool, if◌then◌else◌, List, [], ◌∷◌, ◌++◌, map, length, Option, Some, None, option_to_list, pos, codes}
use Rattle.std.specs.Option.{option_map}
use Rattle.def_term.specs.Tree.{Tree, int, atom, pid}
use Rattle.def_term.specs.Names.{Name, word, mfa_term}
use Rattle.def_term.specs.Alive.{FIRST_PID}
use Rattle.def_script.specs.Program.{Function, Entry, entry_mfa}
use Rattle.def_node.specs.Process.{Frame, Process, mfa_at}
use Rattle.def_node.specs.Node.{partner_pids}
use Rattle.def_outlook.specs.Outlook.{is_waiting}
use Rattle.def_state.specs.Lines.{StateLine, terms_line, pair_term, list_of}
use Rattle.def_state.specs.SessionTexts.{frame_term}

-- ---- frames

-- {Variable,Value}
abbrev pub binding_term : Name × Tree → Tree
binding_term e = pair_term (atom e.0) e.1

-- the function with this number, where there is one
abbrev pub function_terms : List Function → ℕ → List Tree
function_terms ks i = option_to_list (option_map mfa_term (mfa_at ks i))

-- {step,N}
abbrev pub step_term : ℕ → Tree
step_term place = pair_term (word "step") (int (pos (place + 1)))

-- the frame of this depth
abbrev pub frame_line : List Function → Frame → ℕ → StateLine
frame_line ks f depth = frame_term depth ∷ (function_terms ks f.function ++ step_term f.place ∷ map binding_term f.env)

-- the newest of these frames, and those below it
abbrev pub frames_text : List Function → List Frame → List ℕ
frames_text ks [] = []
frames_text ks (f ∷ fs) = terms_line (frame_line ks f (length fs + 1)) ++ frames_text ks fs

-- ---- the process

-- whether it waits
abbrev pub status_term : Bool → Tree
status_term waits = if waits then word "waiting" else word "runnable"

-- {messages,[M, ..]}
abbrev pub messages_term : List Tree → Tree
messages_term ts = pair_term (word "messages") (list_of ts)

-- {links,[P, ..]}
abbrev pub links_term : List Bool → Tree
links_term ls = pair_term (word "links") (list_of (map pid (partner_pids FIRST_PID ls)))

-- {signal,R}
abbrev pub signal_text : Option Tree → List ℕ
signal_text None = []
signal_text (Some r) = terms_line (pair_term (word "signal") r ∷ [])

-- a living process
abbrev pub living_text : List Function → Process → List ℕ
living_text ks q =
    terms_line (status_term (is_waiting ks q) ∷ []) ++ frames_text ks q.frames ++ terms_line (messages_term q.mailbox ∷ []) ++ terms_line (links_term q.links ∷ []) ++ signal_text q.signal

-- ---- its header

-- the function of the oldest of these frames
abbrev pub oldest_function : List Function → List Frame → List Tree
oldest_function ks [] = []
oldest_function ks (f ∷ []) = function_terms ks f.function
oldest_function ks (f ∷ g ∷ fs) = oldest_function ks (g ∷ fs)

-- the function that a process began with: that of the call that is still to be made, or of the oldest frame
abbrev pub initial_function : List Function → Process → Option Entry → List Tree
initial_function ks q (Some e) = mfa_term (entry_mfa e) ∷ []
initial_function ks q None = oldest_function ks q.frames

-- == process <0.N.0> {M,F,Arity}; one that has exited has no function
abbrev pub process_header : ℕ → List Tree → List ℕ
process_header n fs = codes "== process " ++ terms_line (pid n ∷ fs)

-- a process that was started with this pid
abbrev pub process_text : List Function → ℕ → Option Process → List ℕ
process_text ks n None = process_header n [] ++ terms_line (word "exited" ∷ [])
process_text ks n (Some q) = process_header n (initial_function ks q q.entry) ++ living_text ks q

-- each process that was started, from this pid on
abbrev pub processes_text : List Function → ℕ → List (Option Process) → List ℕ
processes_text ks n [] = []
processes_text ks n (s ∷ ss) = process_text ks n s ++ processes_text ks (suc n) ss
