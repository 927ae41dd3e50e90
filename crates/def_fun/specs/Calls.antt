-- The functions and actions that a fun may call.
-- Depends on def_spec's dialects, positions and names. They are those of `ms_transform` (STDLIB) that the model has: "Functions Allowed in All Types of Match Specifications" and
-- "Functions Allowed Only for Tracing" of "Match Specifications in Erlang", but `tuple_size/1`, `is_boolean/1` and `is_bitstring/1`.
use Rattle.std.specs.Prelude.{ℕ, Bool, false, ◌&&◌, ◌||◌, if◌then◌else◌, nat_le, List, [], ◌∷◌, codes, Ok, Err}
use Rattle.std.specs.Str.{bytes_eq}
use Prim.Native.String.{String}
use Rattle.def_term.specs.Names.{Name}
use Rattle.def_term.specs.Text.{is_among}
use Rattle.def_spec.specs.Expressions.{Dialect, Action, message, return_trace, exception_trace, silent, enable_trace, disable_trace, trace, caller, Position, in_condition, in_body}
use Rattle.def_spec.specs.Reading.{has_action, unsupported_names}
use Rattle.def_fun.specs.Refusals.{no_function, unsupported, OrRefusal}

-- a function with so many arguments
pub record FunFunction : Type 0 where
  pub name : Name
  pub arguments : ℕ

-- with so many arguments
abbrev pub function_row : ℕ → String → FunFunction
function_row n s = record { name = codes s; arguments = n }

-- in guards and bodies
abbrev pub fun_functions : List FunFunction
fun_functions =
    function_row 1 "abs" ∷ function_row 2 "element" ∷ function_row 1 "hd" ∷ function_row 1 "tl" ∷ function_row 1 "length" ∷ function_row 1 "size" ∷ function_row 0 "node" ∷ function_row 1 "node" ∷ function_row 0 "self"
    ∷ function_row 1 "is_atom" ∷ function_row 1 "is_float" ∷ function_row 1 "is_integer" ∷ function_row 1 "is_list" ∷ function_row 1 "is_number" ∷ function_row 1 "is_pid" ∷ function_row 1 "is_port" ∷ function_row 1 "is_reference"
    ∷ function_row 1 "is_tuple" ∷ function_row 1 "is_map" ∷ function_row 1 "is_binary" ∷ function_row 1 "is_function" ∷ []

-- an action with so many arguments
pub record FunAction : Type 0 where
  pub name : Name
  pub action : Action
  pub arguments : ℕ

-- with so many arguments
abbrev pub action_row : ℕ → String → Action → FunAction
action_row n s a = record { name = codes s; action = a; arguments = n }

-- in bodies
abbrev pub fun_actions : List FunAction
fun_actions =
    action_row 1 "message" message ∷ action_row 0 "return_trace" return_trace ∷ action_row 0 "exception_trace" exception_trace ∷ action_row 1 "silent" silent
    ∷ action_row 1 "enable_trace" enable_trace ∷ action_row 2 "enable_trace" enable_trace ∷ action_row 1 "disable_trace" disable_trace ∷ action_row 2 "disable_trace" disable_trace
    ∷ action_row 2 "trace" trace ∷ action_row 3 "trace" trace ∷ action_row 0 "caller" caller ∷ []

-- the name with so many arguments is one of the functions
abbrev pub is_function_of : List FunFunction → Name → ℕ → Bool
is_function_of [] s n = false
is_function_of (f ∷ fs) s n = (bytes_eq f.name s && nat_le n f.arguments && nat_le f.arguments n) || is_function_of fs s n

-- it is one of the actions, which the dialect has
abbrev pub is_action_of : Dialect → List FunAction → Name → ℕ → Bool
is_action_of d [] s n = false
is_action_of d (f ∷ fs) s n = (bytes_eq f.name s && nat_le n f.arguments && nat_le f.arguments n && has_action d f.action) || is_action_of d fs s n

-- actions are in bodies alone
abbrev pub may_call : Dialect → Position → Name → ℕ → Bool
may_call d in_condition s n = is_function_of fun_functions s n
may_call d in_body s n = is_function_of fun_functions s n || is_action_of d fun_actions s n

-- `object()` and `bindings()`, the special variables ("The special match_spec variables")
abbrev pub is_object : Name → Bool
is_object s = bytes_eq s (codes "object")

-- '$*'
abbrev pub is_bindings : Name → Bool
is_bindings s = bytes_eq s (codes "bindings")

-- what a call is
pub data FunCall : Type 0 where
  the_object : FunCall
  the_bindings : FunCall
  a_call : FunCall

-- a name that the model leaves out is a refusal of its own, whatever its arguments; then one that may not be called there
abbrev pub named_fun_call : Dialect → Position → Name → ℕ → ℕ → OrRefusal FunCall
named_fun_call d part s n at =
    if is_among unsupported_names s then Err (unsupported s at)
    else (if is_object s && nat_le n 0 then Ok the_object
    else (if is_bindings s && nat_le n 0 then Ok the_bindings
    else (if may_call d part s n then Ok a_call
    else Err (no_function s n at))))
