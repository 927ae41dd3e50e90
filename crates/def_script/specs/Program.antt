-- A program: the functions that it declares, the processes that it begins with, and its control list of session commands.
-- Depends on terms. The script language is this project's own; the classes of exceptions are those of the module erlang, and the commands trace:session_create/3, session_destroy/1, process/4, function/4, send/3 and recv/3.
use Rattle.std.specs.Prelude.{ℕ, suc, nat_le, Bool, false, ◌&&◌, List, [], ◌∷◌, length, Option, Some, None, if◌then◌else◌}
use Rattle.def_term.specs.Tree.{Tree}
use Rattle.def_term.specs.Names.{Name, Mfa, same_mfa}

-- a variable is an atom whose first character is a capital letter (own)
abbrev pub is_variable : Name → Bool
is_variable [] = false
is_variable (c ∷ cs) = nat_le 65 c && nat_le c 90

-- the class of an exception, by the function of the module erlang that raises it: error/1, throw/1 or exit/1
pub data Class : Type 0 where
  error throw exit : Class

-- a step of a function; its terms are templates. Without a target the value is discarded (own)
pub data Step : Type 0 where
  send : (to message : Tree) → Step
  receive : (target : Option Name) → Step
  -- a call that names the module, and one that doesn't
  call_remote : (target : Option Name) → (module_name function_name : Name) → (args : List Tree) → Step
  call_local : (target : Option Name) → (function_name : Name) → (args : List Tree) → Step
  -- a call that names the module, and catches what is raised in it
  catch : (target : Option Name) → (module_name function_name : Name) → (args : List Tree) → Step
  spawn : (target : Option Name) → (module_name function_name : Name) → (args : List Tree) → Step
  link : (other : Tree) → Step
  unlink : (other : Tree) → Step
  give_back : (value : Tree) → Step
  -- an exception of that class
  raise : Class → (value : Tree) → Step

-- a function of a module, exported or internal, with its parameters and steps
pub record Function : Type 0 where
  pub module_name : Name
  pub function_name : Name
  pub exported : Bool
  pub params : List Name
  pub steps : List Step

-- the function by its module, its name and its number of parameters
abbrev pub mfa_of : Function → Mfa
mfa_of k = record { module_name = k.module_name; function_name = k.function_name; arity = length k.params }

-- the call with which a process begins
pub record Entry : Type 0 where
  pub module_name : Name
  pub function_name : Name
  pub args : List Tree

-- the function that it calls
abbrev pub entry_mfa : Entry → Mfa
entry_mfa e = record { module_name = e.module_name; function_name = e.function_name; arity = length e.args }

-- a command to the session of a name, with its other fields as the terms that they were given as
pub data Command : Type 0 where
  create : (session tracer : Name) → Command
  destroy : (session : Name) → Command
  -- trace:process/4
  set_processes : (session : Name) → (procs how flags : Tree) → Command
  -- trace:function/4
  set_function : (session : Name) → (mfa specification options : Tree) → Command
  -- trace:send/3 and trace:recv/3
  set_send : (session : Name) → (specification : Tree) → Command
  set_receive : (session : Name) → (specification : Tree) → Command

-- the name of the session that the command is to
abbrev pub session_of : Command → Name
session_of (create s t) = s
session_of (destroy s) = s
session_of (set_processes s procs how flags) = s
session_of (set_function s mfa spec options) = s
session_of (set_send s spec) = s
session_of (set_receive s spec) = s

-- a form of a script
pub data Form : Type 0 where
  declares : Function → Form
  starts : Entry → Form
  controls : List Command → Form

-- functions, initial processes and the control list, each in the order of the forms
pub record Program : Type 0 where
  pub functions : List Function
  pub entries : List Entry
  pub commands : List Command

-- the number of the first function of this module, name and number of parameters, counted from i
abbrev pub number_from : ℕ → List Function → Mfa → Option ℕ
number_from i [] f = None
number_from i (k ∷ ks) f = if same_mfa (mfa_of k) f then Some i else number_from (suc i) ks f
