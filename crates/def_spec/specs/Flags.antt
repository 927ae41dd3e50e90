-- The ten flags of processes in a session (trace:process/4), sets of them, and the flags of all processes.
-- Depends on terms and on the pids of processes.
use Rattle.std.specs.Prelude.{ℕ, ◌-◌, ◌==◌, Bool, false, not, ◌&&◌, ◌||◌, if◌then◌else◌, List, [], ◌∷◌, Option, Some, None, codes, slice_get, slice_set}
use Rattle.std.specs.Option.{option_map, unwrap_or}
use Rattle.std.specs.Str.{bytes_eq}
use Rattle.def_term.specs.Tree.{Tree, atom, list, Trees, none, more}
use Rattle.def_term.specs.Names.{Name}
use Rattle.def_term.specs.Alive.{FIRST_PID}

-- `send`, `'receive'`, `call`, `procs`, `silent`, `arity`, `set_on_spawn`, `set_on_first_spawn`, `set_on_link` and `set_on_first_link`
pub data Flag : Type 0 where
  send_flag receive_flag call_flag procs_flag silent_flag arity_flag set_on_spawn set_on_first_spawn set_on_link set_on_first_link : Flag

-- each flag has a number of its own
abbrev pub number_of : Flag → ℕ
number_of send_flag = 0
number_of receive_flag = 1
number_of call_flag = 2
number_of procs_flag = 3
number_of silent_flag = 4
number_of arity_flag = 5
number_of set_on_spawn = 6
number_of set_on_first_spawn = 7
number_of set_on_link = 8
number_of set_on_first_link = 9

-- a set of flags
abbrev pub Flags : Type 0
Flags = Flag → Bool

-- the empty set
abbrev pub no_flags : Flags
no_flags f = false

-- the set of one flag
abbrev pub only : Flag → Flags
only f g = number_of f == number_of g

-- the flags of either set
abbrev pub union : Flags → Flags → Flags
union f g x = f x || g x

-- the flags of the first set that are not in the second
abbrev pub without : Flags → Flags → Flags
without f g x = f x && not (g x)

-- all flags of the second are in the first
abbrev pub has_all : Flags → Flags → Bool
has_all f g =
    let has : Flag → Bool = λ x. f x || not (g x) in
    has send_flag && (has receive_flag && (has call_flag && (has procs_flag && (has silent_flag && (has arity_flag && (has set_on_spawn && (has set_on_first_spawn && (has set_on_link && has set_on_first_link))))))))

-- the same flags are in both
abbrev pub same_flags : Flags → Flags → Bool
same_flags f g = has_all f g && has_all g f

-- the flags by their names
abbrev pub flags_by_name : List (Name × Flag)
flags_by_name =
    (codes "send", send_flag) ∷ (codes "receive", receive_flag) ∷ (codes "call", call_flag) ∷ (codes "procs", procs_flag) ∷ (codes "silent", silent_flag) ∷ (codes "arity", arity_flag)
    ∷ (codes "set_on_spawn", set_on_spawn) ∷ (codes "set_on_first_spawn", set_on_first_spawn) ∷ (codes "set_on_link", set_on_link) ∷ (codes "set_on_first_link", set_on_first_link) ∷ []

-- the flag of a name, where it is one
abbrev pub named_in : List (Name × Flag) → Name → Option Flag
named_in [] s = None
named_in (e ∷ es) s = if bytes_eq s e.0 then Some e.1 else named_in es s

-- the flag that a term names
abbrev pub flag_named : Tree → Option Flag
flag_named (atom s) = named_in flags_by_name s
flag_named _ = None

-- one more flag, where there is one
abbrev pub and_flag : Option Flag → Option Flags → Option Flags
and_flag None fs = None
and_flag (Some f) fs = option_map (union (only f)) fs

-- the flags that the elements of a list name; none where one is no flag
abbrev pub flags_named : Trees → Option Flags
flags_named none = Some no_flags
flags_named (more t ts) = and_flag (flag_named t) (flags_named ts)

-- those that a term lists; none where it is no list, or one of its elements is no flag
abbrev pub flags_listed : Tree → Option Flags
flags_listed (list ts) = flags_named ts
flags_listed _ = None

-- ---- the flags of processes

-- the flags of the processes of a run, from the first pid on
abbrev pub FlagTable : Type 0
FlagTable = List Flags

-- those of one process
abbrev pub flags_in : FlagTable → ℕ → Flags
flags_in t n = unwrap_or (slice_get t (n - FIRST_PID)) no_flags

-- one process with these flags
abbrev pub with_flags_in : FlagTable → ℕ → Flags → FlagTable
with_flags_in t n f = slice_set t (n - FIRST_PID) f

-- ---- inheritance

-- what a process with these flags gives to a child or a linked process, and what it keeps (the flags `set_on_spawn` and `set_on_first_spawn`, `set_on_link` and `set_on_first_link`).
-- With the first alone it gives all, that one too; with the second all but that one, which it loses; with both all but both, which it loses (own)
abbrev pub given_and_kept : (always first : Flag) → Flags → Flags × Flags
given_and_kept always first f =
    let rest : Flags = without f (union (only always) (only first)) in
    if f first then (rest, rest) else (if f always then f else no_flags, f)

-- the new flags of parent and child
abbrev pub after_spawn : (parent child : Flags) → Flags × Flags
after_spawn parent child = let pair : Flags × Flags = given_and_kept set_on_spawn set_on_first_spawn parent in (pair.1, union child pair.0)

-- the new flags of the linking process and its partner
abbrev pub after_link : (linker partner : Flags) → Flags × Flags
after_link linker partner = let pair : Flags × Flags = given_and_kept set_on_link set_on_first_link linker in (pair.1, union partner pair.0)
