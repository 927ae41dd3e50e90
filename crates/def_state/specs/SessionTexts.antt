-- The text of one session at a moment of a run, in the words of trace:info/3 (own).
-- Depends on the session's state, on what it sees, and on the terms of its settings.
--
-- absent                                            the session isn't created yet
-- live                                              it is created, and not destroyed
-- destroyed                                         it is destroyed
-- Of a live session alone:
-- <0.100.0> {flags,[call,send]}                     a living process that has flags, by rising pid; flags are in the order of `flags_by_name`
-- new_processes {flags,[call]}                      the flags that new processes get, where there are some
-- {m,f,1} {traced,global} {match_spec,[]}           a function of the script that is traced: `global` or `local`, and the match specification as it was given, or `[]` without one
-- send {match_spec,false}                           the setting of sends, where it isn't `true`
-- 'receive' {match_spec,T}                          the same of receives
-- <0.100.0> {frame,2} return_trace                  a frame with a mark, by rising pid and depth: how its call returns is reported
-- <0.100.0> {frame,2} exception_trace               and how an exception leaves it is too
use Rattle.std.specs.Prelude.{ℕ, Bool, if◌then◌else◌, List, [], ◌∷◌, ◌++◌, flat_map, Option, Some, None, pos}
use Rattle.def_term.specs.Tree.{Tree, int, atom, pid, list, none}
use Rattle.def_term.specs.Names.{Name, Mfa, word, mfa_term}
use Rattle.def_term.specs.Alive.{FIRST_PID, PROCESSES, is_alive}
use Rattle.def_script.specs.Program.{Command}
use Rattle.def_script.specs.Exports.{Exports}
use Rattle.def_spec.specs.Flags.{Flag, Flags, flags_by_name}
use Rattle.def_node.specs.Process.{FRAMES}
use Rattle.def_session.specs.Settings.{Setting, off, plain, by}
use Rattle.def_session.specs.State.{Phase, absent, live, destroyed, MarkKind, for_returns, for_exceptions, Session, flags_at, mark_of}
use Rattle.def_run.specs.Round.{pass_from}
use Rattle.def_run.specs.View.{View}
use Rattle.def_run.specs.Listing.{state_of}
use Rattle.def_state.specs.Lines.{StateLine, terms_line, pair_term, list_of}
use Rattle.def_state.specs.SettingTerms.{SettingTerm, FunctionTerm, commands_to, newest, send_term_of, receive_term_of, function_term_to}

-- ---- flags

-- the pids of a run
abbrev pub pids : List ℕ
pids = pass_from PROCESSES FIRST_PID

-- the name of a flag, where it is set
abbrev pub flag_where : Bool → Name → List Tree
flag_where b n = if b then atom n ∷ [] else []

-- the names of the flags of a set, in the order of these
abbrev pub flags_among : Flags → List (Name × Flag) → List Tree
flags_among f [] = []
flags_among f (e ∷ es) = flag_where (f e.1) e.0 ++ flags_among f es

-- {flags,[F, ..]}
abbrev pub flags_term : List Tree → Tree
flags_term fs = pair_term (word "flags") (list_of fs)

-- what has these flags, where there are some
abbrev pub owner_flags_text : Tree → List Tree → List ℕ
owner_flags_text t [] = []
owner_flags_text t (f ∷ fs) = terms_line (t ∷ flags_term (f ∷ fs) ∷ [])

-- a process
abbrev pub flags_text_at : Session → ℕ → List ℕ
flags_text_at s n = if is_alive s.alive n then owner_flags_text (pid n) (flags_among (flags_at s n) flags_by_name) else []

-- each process
abbrev pub flag_texts : Session → List ℕ
flag_texts s = flat_map (flags_text_at s) pids

-- new processes
abbrev pub new_process_text : Session → List ℕ
new_process_text s = owner_flags_text (word "new_processes") (flags_among s.new_process_flags flags_by_name)

-- ---- settings

-- {match_spec,T}
abbrev pub match_spec_term : Tree → Tree
match_spec_term t = pair_term (word "match_spec") t

-- the kind of a trace pattern
abbrev pub kind_term : Bool → Tree
kind_term local = if local then word "local" else word "global"

-- {traced,global} or {traced,local}, and the specification
abbrev pub pattern_line : Mfa → Bool → Tree → StateLine
pattern_line f local t = mfa_term f ∷ pair_term (word "traced") (kind_term local) ∷ match_spec_term t ∷ []

-- a function that is disabled has no line
abbrev pub function_text_by : Mfa → Bool → Setting → Tree → List ℕ
function_text_by f local off t = []
function_text_by f local plain t = terms_line (pattern_line f local (list none))
function_text_by f local (by s) t = terms_line (pattern_line f local t)

-- nor has one that no command has among its own
abbrev pub function_text_of : Mfa → Option FunctionTerm → List ℕ
function_text_of f None = []
function_text_of f (Some g) = function_text_by f g.0.local g.0.setting g.1

-- a function, by the newest accepted command that has it among its own
abbrev pub function_setting_text : List Command → Mfa × Bool → List ℕ
function_setting_text cs f = function_text_of f.0 (newest (function_term_to f.0 f.1) cs)

-- each function of the script
abbrev pub function_texts : List Command → List (Mfa × Bool) → List ℕ
function_texts cs fs = flat_map (function_setting_text cs) fs

-- what is sent or received, where it has a specification or is disabled
abbrev pub setting_text_by : Tree → Setting → Tree → List ℕ
setting_text_by name off t = terms_line (name ∷ match_spec_term (word "false") ∷ [])
setting_text_by name plain t = []
setting_text_by name (by s) t = terms_line (name ∷ match_spec_term t ∷ [])

-- by the newest accepted command
abbrev pub setting_text : Tree → Option SettingTerm → List ℕ
setting_text name None = []
setting_text name (Some g) = setting_text_by name g.0 g.1

-- ---- marks

-- the depths of frames
abbrev pub depths : List ℕ
depths = pass_from FRAMES 1

-- {frame,D}
abbrev pub frame_term : ℕ → Tree
frame_term depth = pair_term (word "frame") (int (pos depth))

-- the action that makes such a mark
abbrev pub mark_term : MarkKind → Tree
mark_term for_returns = word "return_trace"
mark_term for_exceptions = word "exception_trace"

-- a frame with a mark
abbrev pub frame_mark_text : ℕ → ℕ → Option MarkKind → List ℕ
frame_mark_text n depth None = []
frame_mark_text n depth (Some k) = terms_line (pid n ∷ frame_term depth ∷ mark_term k ∷ [])

-- each frame of a living process
abbrev pub marks_text_at : Session → ℕ → List ℕ
marks_text_at s n = if is_alive s.alive n then flat_map (λ depth. frame_mark_text n depth (mark_of s n depth)) depths else []

-- of each process
abbrev pub mark_texts : Session → List ℕ
mark_texts s = flat_map (marks_text_at s) pids

-- ---- the session

-- the settings that these commands gave: of functions, of sends and of receives
abbrev pub settings_text : List Command → List (Mfa × Bool) → List ℕ
settings_text cs fs = function_texts cs fs ++ setting_text (word "send") (newest send_term_of cs) ++ setting_text (word "receive") (newest receive_term_of cs)

-- a live session after these commands
abbrev pub live_text : Exports → Session → List Command → List ℕ
live_text o s cs = terms_line (word "live" ∷ []) ++ flag_texts s ++ new_process_text s ++ settings_text cs o.functions ++ mark_texts s

-- by its phase
abbrev pub text_in_phase : Phase → Exports → Session → List Command → List ℕ
text_in_phase absent o s cs = terms_line (word "absent" ∷ [])
text_in_phase live o s cs = live_text o s cs
text_in_phase destroyed o s cs = terms_line (word "destroyed" ∷ [])

-- a session, as a function of its view alone
abbrev pub text_by_view : View → List ℕ
text_by_view v = text_in_phase (state_of v).phase v.opening (state_of v) (commands_to v.items)
