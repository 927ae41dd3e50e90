-- What actions are called by, and which specifications are for calls ("Match Specifications in Erlang", "Functions Allowed Only for Tracing").
-- Depends on expressions.
use Rattle.std.specs.Prelude.{Bool, true, false, codes}
use Rattle.def_term.specs.Names.{Name}
use Rattle.def_spec.specs.Expressions.{Dialect, for_calls, Action, message, return_trace, exception_trace, silent, enable_trace, disable_trace, trace, caller}

-- what an action is called by
abbrev pub action_name : Action → Name
action_name message = codes "message"
action_name return_trace = codes "return_trace"
action_name exception_trace = codes "exception_trace"
action_name silent = codes "silent"
action_name enable_trace = codes "enable_trace"
action_name disable_trace = codes "disable_trace"
action_name trace = codes "trace"
action_name caller = codes "caller"

-- the dialect is that of calls
abbrev pub is_of_calls : Dialect → Bool
is_of_calls for_calls = true
is_of_calls d = false
