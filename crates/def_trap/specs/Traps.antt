-- Traps (own): clauses of match specifications that a command takes, and that do nothing where something was meant.
-- "Match Specifications in Erlang", "Grammar": an action is a call {Name,..}, and its bare name is a constant; "Functions Allowed Only for Tracing": {return_trace} and {exception_trace} are of calls. "erlang", trace_pattern/3: the list of a send is [Receiver,Message], that of a receive [Node,Sender,Message].
-- Depends on specifications as they are read, and on flags.
use Rattle.std.specs.Prelude.{◌==◌, ℕ, suc, Bool, true, false, not, ◌&&◌, if◌then◌else◌, List, [], ◌∷◌, Option, Some, None, is_some}
use Rattle.std.specs.List.{list_any}
use Rattle.std.specs.Option.{option_map, option_or}
use Rattle.def_term.specs.Tree.{Tree, atom}
use Rattle.def_term.specs.Names.{Name}
use Rattle.def_spec.specs.Flags.{flag_named, flags_listed}
use Rattle.def_spec.specs.Matching.{Pattern, in_list, Patterns, no_patterns, and_pattern}
use Rattle.def_spec.specs.Expressions.{Dialect, for_calls, for_sends, for_receives, Action, return_trace, exception_trace, enable_trace, disable_trace, trace, Expr, constant, list_of, perform, Exprs, no_exprs, and_expr}
use Rattle.def_spec.specs.Reading.{Callee, a_function, an_and_also, an_or_else, an_action, Row, found_in, table}
use Rattle.def_spec.specs.Outcome.{Clause}
use Rattle.def_trap.specs.Actions.{is_of_calls}

-- what an expression of a body is that has no effect
pub data BodyTrap : Type 0 where
  -- the name of an action, which is a constant
  names_action : Name → BodyTrap
  -- an action that marks a call, where there is no call
  marks_no_call : Action → BodyTrap
  -- an action that changes flags, and what stands where it takes a flag or a list of flags
  lacks_flag : Action → Tree → BodyTrap

-- what a clause has
pub data Trap : Type 0 where
  -- its head is a list of so many elements, and no list that is matched has as many
  of_head : (elements : ℕ) → Trap
  -- the expression of its body after so many
  of_body : (before : ℕ) → BodyTrap → Trap

-- ---- names of actions

abbrev pub is_action : Callee → Bool
is_action (an_action a) = true
is_action (a_function f) = false
is_action an_and_also = false
is_action an_or_else = false

abbrev pub is_action_row : Option Row → Bool
is_action_row None = false
is_action_row (Some r) = is_action r.called

abbrev pub is_action_name : Name → Bool
is_action_name s = is_action_row (found_in table s)

abbrev pub action_named : Name → Option BodyTrap
action_named s = if is_action_name s then Some (names_action s) else None

-- a constant of a body that is such a name
abbrev pub named_action : Tree → Option BodyTrap
named_action (atom s) = action_named s
named_action _ = None

-- ---- marks

abbrev pub marks_call : Action → Bool
marks_call return_trace = true
marks_call exception_trace = true
marks_call _ = false

-- ---- flags

abbrev pub is_flag : Tree → Bool
is_flag t = is_some (flag_named t)

-- the term, where it is no flag, and where it is no list of flags
abbrev pub unless_flag : Tree → Option Tree
unless_flag t = if is_flag t then None else Some t

abbrev pub unless_flags : Tree → Option Tree
unless_flags t = if is_some (flags_listed t) then None else Some t

-- the constant, where it is no flag
abbrev pub no_flag : Expr → Option Tree
no_flag (constant t) = unless_flag t
no_flag _ = None

-- the first of several expressions that is such a constant
abbrev pub first_no_flag : Exprs → Option Tree
first_no_flag no_exprs = None
first_no_flag (and_expr e es) = option_or (no_flag e) (first_no_flag es)

-- what is no list of flags: a constant that is none, or of a list the first constant that is no flag
abbrev pub no_flags_in : Expr → Option Tree
no_flags_in (list_of es) = first_no_flag es
no_flags_in (constant t) = unless_flags t
no_flags_in _ = None

-- of the two lists of flags of `trace` the first that is none
abbrev pub no_lists : (off on : Expr) → Option Tree
no_lists off on = option_or (no_flags_in off) (no_flags_in on)

-- {enable_trace,Flag} and {enable_trace,Pid,Flag}
abbrev pub no_flag_last : Exprs → Option Tree
no_flag_last (and_expr f no_exprs) = no_flag f
no_flag_last (and_expr p (and_expr f no_exprs)) = no_flag f
no_flag_last _ = None

-- {trace,Disable,Enable} and {trace,Pid,Disable,Enable}
abbrev pub no_lists_last : Exprs → Option Tree
no_lists_last (and_expr off (and_expr on no_exprs)) = no_lists off on
no_lists_last (and_expr p (and_expr off (and_expr on no_exprs))) = no_lists off on
no_lists_last _ = None

-- what stands among the arguments of an action in place of a flag
abbrev pub no_flag_among : Action → Exprs → Option Tree
no_flag_among enable_trace es = no_flag_last es
no_flag_among disable_trace es = no_flag_last es
no_flag_among trace es = no_lists_last es
no_flag_among _ es = None

-- ---- clauses

-- of a call of an action
abbrev pub action_trap : Dialect → Action → Exprs → Option BodyTrap
action_trap d a es = if marks_call a && not (is_of_calls d) then Some (marks_no_call a) else option_map (lacks_flag a) (no_flag_among a es)

-- of an expression of a body
abbrev pub body_trap : Dialect → Expr → Option BodyTrap
body_trap d (constant t) = named_action t
body_trap d (perform a es) = action_trap d a es
body_trap d _ = None

-- the first of a body, with how many expressions are before it
abbrev pub first_in_body : Dialect → ℕ → Exprs → Option Trap
first_in_body d n no_exprs = None
first_in_body d n (and_expr e es) = option_or (option_map (of_body n) (body_trap d e)) (first_in_body d (suc n) es)

abbrev pub count_patterns : Patterns → ℕ
count_patterns no_patterns = 0
count_patterns (and_pattern p ps) = suc (count_patterns ps)

-- of a head of so many elements, where the lists that are matched have these lengths
abbrev pub length_trap : (lengths : List ℕ) → ℕ → Option Trap
length_trap lengths n = if list_any (λ m. m == n) lengths then None else Some (of_head n)

-- of a head
abbrev pub head_trap : (lengths : List ℕ) → Pattern → Option Trap
head_trap lengths (in_list ps) = length_trap lengths (count_patterns ps)
head_trap lengths _ = None

-- the first trap of a clause
abbrev pub clause_trap : Dialect → (lengths : List ℕ) → Clause → Option Trap
clause_trap d lengths k = option_or (head_trap lengths k.head) (first_in_body d 0 k.body)

-- the first of a specification, with how many clauses are before its own
abbrev pub trap_after : Dialect → (lengths : List ℕ) → ℕ → List Clause → Option (ℕ × Trap)
trap_after d lengths n [] = None
trap_after d lengths n (k ∷ ks) = option_or (option_map (λ t. (n, t)) (clause_trap d lengths k)) (trap_after d lengths (suc n) ks)

abbrev pub first_trap : Dialect → (lengths : List ℕ) → List Clause → Option (ℕ × Trap)
first_trap d lengths ks = trap_after d lengths 0 ks

-- the lengths of the lists of sends and of receives; those of calls are the arities of the functions that are traced
abbrev pub list_lengths : Dialect → (arities : List ℕ) → List ℕ
list_lengths for_calls arities = arities
list_lengths for_sends arities = 2 ∷ []
list_lengths for_receives arities = 3 ∷ []
