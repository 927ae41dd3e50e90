-- Specifications whose actions are on their own process alone (own).
-- Depends on expressions, specifications, sessions and runs.
use Rattle.std.specs.Prelude.{ℕ, suc, nat_le, ◌==◌, Bool, true, not, ◌&&◌, List, [], ◌∷◌, ◌++◌, length}
use Rattle.std.specs.Str.{bytes_eq}
use Rattle.def_term.specs.Names.{Name}
use Rattle.def_script.specs.Program.{Command, session_of, Program}
use Rattle.def_spec.specs.Flags.{receive_flag}
use Rattle.def_spec.specs.Expressions.{Action, enable_trace, disable_trace, trace, Expr, bound_to, whole_list, all_bound, constant, tuple_of, list_of, call, and_also, or_else, perform, Exprs, no_exprs, and_expr}
use Rattle.def_spec.specs.Outcome.{Clause}
use Rattle.def_session.specs.Settings.{FunctionSetting, Setting, off, plain, by}
use Rattle.def_session.specs.State.{Session, flags_at}
use Rattle.def_run.specs.View.{view}
use Rattle.def_run.specs.Listing.{messages, state_of}

-- how many expressions
abbrev pub count_exprs : Exprs → ℕ
count_exprs no_exprs = 0
count_exprs (and_expr e es) = suc (count_exprs es)

-- an action with so many arguments names no process, so that it is on the own one
abbrev pub names_no_process : Action → ℕ → Bool
names_no_process enable_trace n = nat_le n 1
names_no_process disable_trace n = nat_le n 1
names_no_process trace n = nat_le n 2
names_no_process a n = true

-- each action in the expression is so
abbrev mutual
  pub acts_on_self : Expr → Bool
  acts_on_self (bound_to n) = true
  acts_on_self whole_list = true
  acts_on_self all_bound = true
  acts_on_self (constant t) = true
  acts_on_self (tuple_of es) = act_on_self es
  acts_on_self (list_of es) = act_on_self es
  acts_on_self (call f es) = act_on_self es
  acts_on_self (and_also es) = act_on_self es
  acts_on_self (or_else es) = act_on_self es
  acts_on_self (perform a es) = names_no_process a (count_exprs es) && act_on_self es

  -- in each of several
  pub act_on_self : Exprs → Bool
  act_on_self no_exprs = true
  act_on_self (and_expr e es) = acts_on_self e && act_on_self es

-- in the body of each clause
abbrev pub clauses_act_on_self : List Clause → Bool
clauses_act_on_self [] = true
clauses_act_on_self (k ∷ ks) = act_on_self k.body && clauses_act_on_self ks

-- in the specification of the setting, where it has one
abbrev pub setting_acts_on_self : Setting → Bool
setting_acts_on_self off = true
setting_acts_on_self plain = true
setting_acts_on_self (by s) = clauses_act_on_self s.clauses

-- in each function setting
abbrev pub functions_act_on_self : List FunctionSetting → Bool
functions_act_on_self [] = true
functions_act_on_self (k ∷ ks) = setting_acts_on_self k.setting && functions_act_on_self ks

-- in each setting of the session
abbrev pub session_acts_on_self : Session → Bool
session_acts_on_self s = functions_act_on_self s.functions && (setting_acts_on_self s.sending && setting_acts_on_self s.receiving)

-- in each setting of each of these sessions, after these picks
abbrev pub sessions_act_on_self : List Name → Program → List ℕ → Bool
sessions_act_on_self [] p picks = true
sessions_act_on_self (s ∷ ss) p picks = session_acts_on_self (state_of (view s p picks)) && sessions_act_on_self ss p picks

-- after these picks the process with this pid has the flag `receive` in none of these sessions
abbrev pub sessions_show_no_receive : List Name → Program → List ℕ → ℕ → Bool
sessions_show_no_receive [] p picks n = true
sessions_show_no_receive (s ∷ ss) p picks n = not (flags_at (state_of (view s p picks)) n receive_flag) && sessions_show_no_receive ss p picks n

-- none of these commands is to this session
abbrev pub none_is_to : Name → List Command → Bool
none_is_to s [] = true
none_is_to s (c ∷ cs) = not (bytes_eq s (session_of c)) && none_is_to s cs

-- nor to one of these
abbrev pub none_is_to_one : List Name → List Command → Bool
none_is_to_one [] cs = true
none_is_to_one (s ∷ ss) cs = none_is_to s cs && none_is_to_one ss cs

-- after these picks a pick of the process with this pid adds no message to those of each of these sessions
abbrev pub sessions_show_nothing : List Name → Program → List ℕ → ℕ → Bool
sessions_show_nothing [] p picks n = true
sessions_show_nothing (s ∷ ss) p picks n = (length (messages s p (picks ++ n ∷ [])) == length (messages s p picks)) && sessions_show_nothing ss p picks n
