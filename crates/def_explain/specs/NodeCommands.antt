-- Which commands can lead to a move that a running node does otherwise (own).
-- Depends on the reading of flags and of specifications, on the order that a body shows, on the functions of logic and on `'$_'` after the head `[]`.
use Rattle.std.specs.Prelude.{Bool, true, false, ◌||◌, Option, Some, None, Ok, Err}
use Rattle.std.specs.List.{list_any}
use Rattle.def_script.specs.Program.{Command, create, destroy, set_processes, set_function, set_send, set_receive, Program}
use Rattle.def_spec.specs.Flags.{Flags, silent_flag, set_on_spawn, set_on_first_spawn, flags_listed}
use Rattle.def_spec.specs.Expressions.{Action, silent, enable_trace, disable_trace, trace, for_calls, for_sends, for_receives, Expr, bound_to, whole_list, all_bound, constant, tuple_of, list_of, call, and_also, or_else, perform, Exprs, no_exprs, and_expr}
use Rattle.def_spec.specs.Outcome.{Clause}
use Rattle.def_spec.specs.Reading.{Reads}
use Rattle.def_session.specs.Settings.{Setting, off, plain, by, setting_of}
use Rattle.def_explain.specs.Logic.{is_logic}
use Rattle.def_explain.specs.Differences.{one_shows_order, has_list_of_none}

-- by this action a process can be silent, or have other flags
abbrev pub can_differ_by : Action → Bool
can_differ_by silent = true
can_differ_by enable_trace = true
can_differ_by disable_trace = true
can_differ_by trace = true
can_differ_by a = false

abbrev mutual
  -- a part of the expression is a call of such an action
  pub expression_can_differ : Expr → Bool
  expression_can_differ (perform a es) = can_differ_by a || one_can_differ es
  expression_can_differ (tuple_of es) = one_can_differ es
  expression_can_differ (list_of es) = one_can_differ es
  expression_can_differ (call f es) = one_can_differ es
  expression_can_differ (and_also es) = one_can_differ es
  expression_can_differ (or_else es) = one_can_differ es
  expression_can_differ (bound_to n) = false
  expression_can_differ whole_list = false
  expression_can_differ all_bound = false
  expression_can_differ (constant t) = false

  -- of one of several
  pub one_can_differ : Exprs → Bool
  one_can_differ no_exprs = false
  one_can_differ (and_expr e es) = expression_can_differ e || one_can_differ es

abbrev mutual
  -- a part of the expression is a call of a function of logic, `andalso` or `orelse`
  pub calls_logic : Expr → Bool
  calls_logic (perform a es) = one_calls_logic es
  calls_logic (tuple_of es) = one_calls_logic es
  calls_logic (list_of es) = one_calls_logic es
  calls_logic (call f es) = is_logic f || one_calls_logic es
  calls_logic (and_also es) = true
  calls_logic (or_else es) = true
  calls_logic (bound_to n) = false
  calls_logic whole_list = false
  calls_logic all_bound = false
  calls_logic (constant t) = false

  -- of one of several
  pub one_calls_logic : Exprs → Bool
  one_calls_logic no_exprs = false
  one_calls_logic (and_expr e es) = calls_logic e || one_calls_logic es

-- the body of a clause has such an action, or shows the order of evaluation; its conditions or its body call logic; or `'$_'` stands in them after the head `[]`
abbrev pub clause_can_differ : Clause → Bool
clause_can_differ k = one_can_differ k.body || (one_shows_order k.body || (one_calls_logic k.conditions || (one_calls_logic k.body || has_list_of_none k)))

-- a clause of the specification is such
abbrev pub setting_can_differ : Setting → Bool
setting_can_differ off = false
setting_can_differ plain = false
setting_can_differ (by s) = list_any clause_can_differ s.clauses

-- what a term is read as; of a fault nothing comes
abbrev pub read_can_differ : Reads Setting → Bool
read_can_differ (Ok setting) = setting_can_differ setting
read_can_differ (Err e) = false

-- one of these flags is `silent`, or hands on flags at a spawn
abbrev pub flags_can_differ : Flags → Bool
flags_can_differ f = f silent_flag || f set_on_spawn || f set_on_first_spawn

abbrev pub listed_can_differ : Option Flags → Bool
listed_can_differ None = false
listed_can_differ (Some f) = flags_can_differ f

-- a move after this command can be one that a node does otherwise
abbrev pub command_can_differ : Command → Bool
command_can_differ (create s t) = false
command_can_differ (destroy s) = false
command_can_differ (set_processes s procs how flags) = listed_can_differ (flags_listed flags)
command_can_differ (set_function s mfa spec options) = read_can_differ (setting_of for_calls spec)
command_can_differ (set_send s spec) = read_can_differ (setting_of for_sends spec)
command_can_differ (set_receive s spec) = read_can_differ (setting_of for_receives spec)

-- one of the program's commands is such
abbrev pub can_differ : Program → Bool
can_differ p = list_any command_can_differ p.commands
