-- Why a command replies `badarg` or {unsupported,Name}, why a function command replies 0, and which trap a command that is done has (own).
-- Depends on what a command does, on why terms are no specifications, on which function is nearest, and on traps; faults are in the order in which the reply has them.
use Rattle.std.specs.Prelude.{◌≡◌, ◌≢◌, ℕ, ◌==◌, Bool, true, false, ◌||◌, if◌then◌else◌, List, [], ◌∷◌, map, filter, Option, Some, None, Ok, Err}
use Rattle.std.specs.Option.{option_map, option_or}
use Rattle.def_term.specs.Tree.{Tree, pid, list, Trees, none, elements}
use Rattle.def_term.specs.Order.{same}
use Rattle.def_term.specs.Names.{Name, Mfa, word}
use Rattle.def_term.specs.Alive.{is_alive}
use Rattle.def_script.specs.Program.{Command, create, destroy, set_processes, set_function, set_send, set_receive}
use Rattle.def_script.specs.Exports.{Exports}
use Rattle.def_spec.specs.Flags.{flag_named, flags_listed}
use Rattle.def_spec.specs.Expressions.{Dialect, for_calls, for_sends, for_receives}
use Rattle.def_spec.specs.Outcome.{Clause, Spec}
use Rattle.def_spec.specs.Reading.{Reads}
use Rattle.def_session.specs.Settings.{FunctionPattern, Setting, FunctionSetting, off, plain, by, setting_of, trace_pattern_of, options_of, has_among}
use Rattle.def_session.specs.State.{Phase, absent, live, destroyed, Session}
use Rattle.def_session.specs.Commands.{number_term, fault_term, procs_of, how_of, matching_count}
use Rattle.def_trap.specs.Traps.{Trap, first_trap, list_lengths}
use Rattle.def_explain.specs.SpecReasons.{SpecReason, reason_fault, IsFirstReason, IsSpecReason, first_reason, spec_reason}
use Rattle.def_explain.specs.NearestFunctions.{nearest_function}

-- why a command is refused, or matches no function, or what it does nothing by
pub data CommandReason : Type 0 where
  -- the session isn't there yet, is there already, or is destroyed
  not_created : CommandReason
  exists_already : CommandReason
  is_destroyed : CommandReason
  -- Procs that are none, and a pid whose process isn't alive
  no_processes : Tree → CommandReason
  not_alive : ℕ → CommandReason
  -- neither `true` nor `false`
  no_how : Tree → CommandReason
  -- Flags that are no list, and the first element that is no flag
  no_flag_list : Tree → CommandReason
  no_flag : Tree → CommandReason
  -- no trace pattern, and no options
  no_pattern : Tree → CommandReason
  no_options : Tree → CommandReason
  -- no specification
  no_specification : SpecReason → CommandReason
  -- no function matches, and which is the nearest; or none that is exported but another
  no_match : Option Mfa → CommandReason
  no_exported_match : CommandReason
  -- it is done and replies this number; the clause after so many of its specification has a trap
  has_trap : (count before : ℕ) → Dialect → Trap → CommandReason

-- the reply of a command with this reason
abbrev pub reply_of : CommandReason → Tree
reply_of (no_specification r) = fault_term (reason_fault r)
reply_of (no_match near) = number_term 0
reply_of no_exported_match = number_term 0
reply_of (has_trap count before d t) = number_term count
reply_of r = word "badarg"

-- whether a command with this reason is refused, and so changes nothing
abbrev pub refuses : CommandReason → Bool
refuses (no_match near) = false
refuses no_exported_match = false
refuses (has_trap count before d t) = false
refuses r = true

-- ---- why a command is refused, matches no function, or has a trap

-- the term is read
abbrev pub IsTaken : {X : Type 0} → Option X → Type 0
IsTaken {X} o = (x : X) × (o ≡ Some x)

-- the command sets or clears flags, with these arguments
abbrev pub SetsProcesses : Command → (procs how flags : Tree) → Type 0
SetsProcesses c procs how flags = (name : Name) × (c ≡ set_processes name procs how flags)

-- the command sets a trace pattern, with these arguments
abbrev pub SetsFunction : Command → (mfa spec options : Tree) → Type 0
SetsFunction c mfa spec options = (name : Name) × (c ≡ set_function name mfa spec options)

-- the command sets what is for calls, sends or receives by this term, and its other arguments are read
abbrev pub SetsBy : Command → Dialect → Tree → Type 0
SetsBy c for_calls t = (mfa options : Tree) × SetsFunction c mfa t options × IsTaken (trace_pattern_of mfa) × IsTaken (options_of options)
SetsBy c for_sends t = (name : Name) × (c ≡ set_send name t)
SetsBy c for_receives t = (name : Name) × (c ≡ set_receive name t)

-- an element that is no flag
abbrev pub IsNoFlag : Tree → Tree → Type 0
IsNoFlag t u = (u ≡ t) × (flag_named t ≡ None)

-- a setting of these functions, whichever it is
abbrev pub any_setting : FunctionPattern → Bool → FunctionSetting
any_setting covered local = record { covered = covered; setting = off; local = local }

-- no function matches a setting of these functions
abbrev pub MatchNone : Exports → FunctionPattern → Bool → Type 0
MatchNone o covered local = matching_count o (any_setting covered local) ≡ 0

-- the command sets the trace pattern of these functions, and is done
abbrev pub SetsPattern : Command → FunctionPattern → Bool → Type 0
SetsPattern c covered local =
    (mfa spec options : Tree) × (k : Setting)
    × SetsFunction c mfa spec options × (trace_pattern_of mfa ≡ Some covered) × (options_of options ≡ Some local) × (setting_of for_calls spec ≡ Ok k)

-- the arities of the functions that match a setting of these
abbrev pub matching_arities : Exports → FunctionPattern → Bool → List ℕ
matching_arities o covered local = map (λ f. f.0.arity) (filter (λ f. has_among (any_setting covered local) f.0 f.1) o.functions)

-- the command sets what is for calls, sends or receives by this specification, is done, and replies this number; the lists that are matched have these lengths
abbrev pub SetsSpec : Exports → Command → Dialect → Spec → (count : ℕ) → (lengths : List ℕ) → Type 0
SetsSpec o c for_calls k count lengths =
    (covered : FunctionPattern) × (local : Bool) × (mfa spec options : Tree)
    × SetsFunction c mfa spec options × (trace_pattern_of mfa ≡ Some covered) × (options_of options ≡ Some local) × (setting_of for_calls spec ≡ Ok (by k))
    × (¬ MatchNone o covered local) × (count ≡ matching_count o (any_setting covered local)) × (lengths ≡ matching_arities o covered local)
SetsSpec o c for_sends k count lengths =
    (name : Name) × (spec : Tree) × (c ≡ set_send name spec) × (setting_of for_sends spec ≡ Ok (by k)) × (count ≡ 1) × (lengths ≡ 2 ∷ [])
SetsSpec o c for_receives k count lengths =
    (name : Name) × (spec : Tree) × (c ≡ set_receive name spec) × (setting_of for_receives spec ≡ Ok (by k)) × (count ≡ 1) × (lengths ≡ 3 ∷ [])

-- of a command to a live session: each argument before is read
abbrev pub IsLiveReason : Exports → Session → Command → CommandReason → Type 0
IsLiveReason o s c not_created = ⊥
IsLiveReason o s c exists_already = (name tracer : Name) × (c ≡ create name tracer)
IsLiveReason o s c is_destroyed = ⊥
IsLiveReason o s c (no_processes t) = (how flags : Tree) × SetsProcesses c t how flags × (procs_of t ≡ None)
IsLiveReason o s c (not_alive n) =
    (how flags : Tree) × SetsProcesses c (pid n) how flags × IsTaken (how_of how) × IsTaken (flags_listed flags) × (is_alive s.alive n ≡ false)
IsLiveReason o s c (no_how t) = (procs flags : Tree) × SetsProcesses c procs t flags × IsTaken (procs_of procs) × (how_of t ≡ None)
IsLiveReason o s c (no_flag_list t) =
    (procs how : Tree) × SetsProcesses c procs how t × IsTaken (procs_of procs) × IsTaken (how_of how) × ((ts : Trees) → t ≢ list ts)
IsLiveReason o s c (no_flag t) =
    (procs how : Tree) × (ts : Trees)
    × SetsProcesses c procs how (list ts) × IsTaken (procs_of procs) × IsTaken (how_of how) × IsFirstReason IsNoFlag (elements ts) t
IsLiveReason o s c (no_pattern t) = (spec options : Tree) × SetsFunction c t spec options × (trace_pattern_of t ≡ None)
IsLiveReason o s c (no_options t) = (mfa spec : Tree) × SetsFunction c mfa spec t × IsTaken (trace_pattern_of mfa) × (options_of t ≡ None)
IsLiveReason o s c (no_specification r) = (d : Dialect) × (t : Tree) × SetsBy c d t × (setting_of d t ≡ Err (reason_fault r)) × IsSpecReason d t r
IsLiveReason o s c (no_match near) =
    (covered : FunctionPattern) × (local : Bool)
    × SetsPattern c covered local × MatchNone o covered local × MatchNone o covered true × (near ≡ nearest_function covered o.functions)
IsLiveReason o s c no_exported_match = (covered : FunctionPattern) × SetsPattern c covered false × MatchNone o covered false × (¬ MatchNone o covered true)
IsLiveReason o s c (has_trap count before d t) =
    (k : Spec) × (lengths : List ℕ) × SetsSpec o c d k count lengths × (first_trap d lengths k.clauses ≡ Some (before, t))

-- only creation is possible of a session that isn't there yet, and only destruction has another reply of a destroyed one
abbrev pub IsCommandReason : Exports → Session → Command → CommandReason → Type 0
IsCommandReason o s c not_created = (s.phase ≡ absent) × ((name tracer : Name) → c ≢ create name tracer)
IsCommandReason o s c is_destroyed = (s.phase ≡ destroyed) × ((name : Name) → c ≢ destroy name)
IsCommandReason o s c r = (s.phase ≡ live) × IsLiveReason o s c r

-- ---- the same, computed: flags of processes

-- this reason where nothing is read
abbrev pub reason_where_none : {X R : Type 0} → R → Option X → Option R
reason_where_none r None = Some r
reason_where_none r (Some x) = None

-- a term that is no flag
abbrev pub other_than_flag : Tree → Option Tree
other_than_flag t = reason_where_none t (flag_named t)

-- of Flags
abbrev pub flags_reason : Tree → Option CommandReason
flags_reason (list ts) = option_map no_flag (first_reason other_than_flag (elements ts))
flags_reason t = Some (no_flag_list t)

-- of a pid whose process isn't alive
abbrev pub life_reason : Session → Tree → Option CommandReason
life_reason s (pid n) = if is_alive s.alive n then None else Some (not_alive n)
life_reason s t = None

-- of Procs, How and Flags, and then of a pid's life
abbrev pub processes_reason : Session → (procs how flags : Tree) → Option CommandReason
processes_reason s procs how flags =
    option_or (reason_where_none (no_processes procs) (procs_of procs))
    (option_or (reason_where_none (no_how how) (how_of how)) (option_or (flags_reason flags) (life_reason s procs)))

-- ---- settings

-- of a specification; `true`, [] and `false` are none
abbrev pub setting_reason : Dialect → Tree → Option CommandReason
setting_reason d t =
    if same t (word "true") || same t (list none) then None else
    if same t (word "false") then None else option_map no_specification (spec_reason d t)

-- where no function matches; a local command also matches functions that aren't exported
abbrev pub no_match_reason : Exports → FunctionPattern → CommandReason
no_match_reason o covered = if matching_count o (any_setting covered true) == 0 then no_match (nearest_function covered o.functions) else no_exported_match

-- of these functions
abbrev pub match_reason : Exports → Option FunctionPattern → Option Bool → Option CommandReason
match_reason o (Some covered) (Some local) = if matching_count o (any_setting covered local) == 0 then Some (no_match_reason o covered) else None
match_reason o _ _ = None

-- of trace pattern and options, then of the specification
abbrev pub function_reason : Exports → (mfa spec options : Tree) → Option CommandReason
function_reason o mfa spec options =
    option_or (reason_where_none (no_pattern mfa) (trace_pattern_of mfa))
    (option_or (reason_where_none (no_options options) (options_of options))
    (option_or (setting_reason for_calls spec) (match_reason o (trace_pattern_of mfa) (options_of options))))

-- ---- traps

-- the clauses of a setting; `true`, [] and `false` have none
abbrev pub setting_clauses : Setting → List Clause
setting_clauses off = []
setting_clauses plain = []
setting_clauses (by k) = k.clauses

-- those of what is read, where it is
abbrev pub clauses_read : Reads Setting → List Clause
clauses_read (Err e) = []
clauses_read (Ok setting) = setting_clauses setting

-- of a specification that a command sets and replies this number; the lists that are matched have these lengths
abbrev pub spec_trap : (count : ℕ) → Dialect → (lengths : List ℕ) → Tree → Option CommandReason
spec_trap count d lengths spec = option_map (λ t. has_trap count t.0 d t.1) (first_trap d lengths (clauses_read (setting_of d spec)))

-- of a specification for these functions
abbrev pub function_trap : Exports → Tree → Option FunctionPattern → Option Bool → Option CommandReason
function_trap o spec (Some covered) (Some local) =
    spec_trap (matching_count o (any_setting covered local)) for_calls (list_lengths for_calls (matching_arities o covered local)) spec
function_trap o spec _ _ = None

-- of the specification of a command, where the command is done
abbrev pub trap_reason : Exports → Command → Option CommandReason
trap_reason o (create name tracer) = None
trap_reason o (destroy name) = None
trap_reason o (set_processes name procs how flags) = None
trap_reason o (set_function name mfa spec options) = function_trap o spec (trace_pattern_of mfa) (options_of options)
trap_reason o (set_send name spec) = spec_trap 1 for_sends (list_lengths for_sends []) spec
trap_reason o (set_receive name spec) = spec_trap 1 for_receives (list_lengths for_receives []) spec

-- ---- one command

-- why a live session refuses it, or matches no function
abbrev pub live_failure : Exports → Session → Command → Option CommandReason
live_failure o s (create name tracer) = Some exists_already
live_failure o s (destroy name) = None
live_failure o s (set_processes name procs how flags) = processes_reason s procs how flags
live_failure o s (set_function name mfa spec options) = function_reason o mfa spec options
live_failure o s (set_send name spec) = setting_reason for_sends spec
live_failure o s (set_receive name spec) = setting_reason for_receives spec

-- to a live session; a trap is of a command that is done
abbrev pub live_reason : Exports → Session → Command → Option CommandReason
live_reason o s c = option_or (live_failure o s c) (trap_reason o c)

-- only creation is possible
abbrev pub absent_reason : Command → Option CommandReason
absent_reason (create name tracer) = None
absent_reason c = Some not_created

-- only destruction has another reply
abbrev pub destroyed_reason : Command → Option CommandReason
destroyed_reason (destroy name) = None
destroyed_reason c = Some is_destroyed

-- by the session's phase
abbrev pub reason_in : Phase → Exports → Session → Command → Option CommandReason
reason_in absent o s c = absent_reason c
reason_in live o s c = live_reason o s c
reason_in destroyed o s c = destroyed_reason c

-- why the command is refused, matches no function or has a trap; none where it is done as it was meant
abbrev pub command_reason : Exports → Session → Command → Option CommandReason
command_reason o s c = reason_in s.phase o s c
