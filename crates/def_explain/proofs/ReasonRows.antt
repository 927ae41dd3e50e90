-- Rows: why small commands and match specifications are refused, and the texts of that.
use Rattle.std.proofs.Common.{◌≡◌, ℕ, true, false, List, [], ◌∷◌, Option, Some, None, pos, codes, refl}
use Rattle.std.specs.Option.{option_map}
use Rattle.std.specs.Fmt.{digits}
use Prim.Native.String.{String}
use Rattle.def_term.specs.Text.{is_written_bare}
use Rattle.def_term.specs.Tree.{Tree, int, pid, tuple, list, of_elements}
use Rattle.def_term.specs.Names.{word}
use Rattle.def_script.specs.Program.{Command, create, destroy, set_processes, set_function, set_send, set_receive}
use Rattle.def_script.specs.Exports.{Exports}
use Rattle.def_spec.specs.Expressions.{Dialect, for_calls, for_sends, for_receives}
use Rattle.def_session.specs.State.{absent, live, destroyed, Session, alive_at_start, new_session}
use Rattle.def_explain.specs.SpecReasons.{spec_reason}
use Rattle.def_explain.specs.CommandReasons.{command_reason}
use Rattle.def_explain.specs.ReasonTexts.{spec_reason_text, command_reason_text, reply_text}

-- ---- terms

abbrev number : ℕ → Tree
number n = int (pos n)

abbrev braces : List Tree → Tree
braces ts = tuple (of_elements ts)

abbrev brackets : List Tree → Tree
brackets ts = list (of_elements ts)

-- {F,E1,..}
abbrev calls : String → List Tree → Tree
calls f ts = braces (word f ∷ ts)

-- {['$1'],Conditions,Body}
abbrev of_one : (conditions body : List Tree) → Tree
of_one cs bs = braces (brackets (word "$1" ∷ []) ∷ brackets cs ∷ brackets bs ∷ [])

-- why these clauses are no specification
abbrev spec_text : Dialect → List Tree → Option (List ℕ)
spec_text d ks = option_map spec_reason_text (spec_reason d (brackets ks))

-- why a specification of one such clause is none
abbrev by_conditions : List Tree → Option (List ℕ)
by_conditions cs = spec_text for_calls (of_one cs [] ∷ [])

abbrev by_body : Dialect → List Tree → Option (List ℕ)
by_body d bs = spec_text d (of_one [] bs ∷ [])

abbrev says : String → Option (List ℕ)
says s = Some (codes s)

-- ---- specifications

pub no_list : option_map spec_reason_text (spec_reason for_calls (word "a")) ≡ says "a match specification is a list of one clause or more, found a"
unfolding is_written_bare digits
no_list = refl

pub no_clause_at_all : spec_text for_calls [] ≡ says "a match specification is a list of one clause or more, found []"
unfolding is_written_bare digits
no_clause_at_all = refl

pub readable : spec_text for_calls (of_one (calls "is_integer" (word "$1" ∷ []) ∷ []) (calls "caller" [] ∷ []) ∷ []) ≡ None
unfolding is_written_bare digits
readable = refl

-- the second clause is the first that is none
pub two_elements : spec_text for_calls (of_one [] [] ∷ braces (word "_" ∷ brackets [] ∷ []) ∷ word "a" ∷ []) ≡ says "clause 2: a clause is {Head,Conditions,Body}, found 2 elements"
unfolding is_written_bare digits
two_elements = refl

pub one_element : spec_text for_calls (braces (word "_" ∷ []) ∷ []) ≡ says "clause 1: a clause is {Head,Conditions,Body}, found 1 element"
unfolding is_written_bare digits
one_element = refl

pub no_tuple_there : spec_text for_calls (word "a" ∷ []) ≡ says "clause 1: a clause is {Head,Conditions,Body}, found a"
unfolding is_written_bare digits
no_tuple_there = refl

pub conditions_no_list : spec_text for_calls (braces (number 5 ∷ word "true" ∷ word "true" ∷ []) ∷ []) ≡ says "clause 1: the conditions are a list, found true"
unfolding is_written_bare digits
conditions_no_list = refl

pub body_no_list : spec_text for_calls (braces (number 5 ∷ brackets [] ∷ word "true" ∷ []) ∷ []) ≡ says "clause 1: the body is a list, found true"
unfolding is_written_bare digits
body_no_list = refl

-- ---- heads

pub number_as_head : spec_text for_calls (braces (number 5 ∷ brackets [] ∷ brackets [] ∷ []) ∷ []) ≡ says "clause 1: a head is a variable, '_' or a list, found 5"
unfolding is_written_bare digits
number_as_head = refl

-- a tuple with a wrong variable in it is no head, and an atom that is no variable neither
pub tuple_as_head : spec_text for_calls (braces (braces (word "$1000" ∷ []) ∷ brackets [] ∷ brackets [] ∷ []) ∷ []) ≡ says "clause 1: a head is a variable, '_' or a list, found {'$1000'}"
unfolding is_written_bare digits
tuple_as_head = refl

pub atom_as_head : spec_text for_calls (braces (word "$_" ∷ brackets [] ∷ brackets [] ∷ []) ∷ []) ≡ says "clause 1: a head is a variable, '_' or a list, found '$_'"
unfolding is_written_bare digits
atom_as_head = refl

pub wrong_as_head : spec_text for_calls (braces (word "$01" ∷ brackets [] ∷ brackets [] ∷ []) ∷ []) ≡ says "clause 1: head: '$01' is no variable; variables are '$0' to '$999'"
unfolding is_written_bare digits
wrong_as_head = refl

-- the first of two, left to right
pub wrong_in_head : spec_text for_calls (braces (brackets (word "$1" ∷ braces (word "a" ∷ word "$1000" ∷ []) ∷ word "$01" ∷ []) ∷ brackets [] ∷ brackets [] ∷ []) ∷ [])
    ≡ says "clause 1: head: '$1000' is no variable; variables are '$0' to '$999'"
unfolding is_written_bare digits
wrong_in_head = refl

-- ---- expressions

pub not_in_the_head : by_body for_calls (calls "message" (word "$1" ∷ []) ∷ calls "message" (word "$2" ∷ []) ∷ []) ≡ says "clause 1: body 2: '$2' isn't in the head"
unfolding is_written_bare digits
not_in_the_head = refl

pub wrong_in_condition : by_conditions (word "true" ∷ word "$1000" ∷ []) ≡ says "clause 1: condition 2: '$1000' is no variable; variables are '$0' to '$999'"
unfolding is_written_bare digits
wrong_in_condition = refl

pub number_first : by_conditions (braces (number 1 ∷ word "$1" ∷ []) ∷ []) ≡ says "clause 1: condition 1: {1,'$1'} is no call; a tuple is written {{1,'$1'}}"
unfolding is_written_bare digits
number_first = refl

pub empty_tuple : by_body for_calls (braces [] ∷ []) ≡ says "clause 1: body 1: {} is no call; a tuple is written {{}}"
unfolding is_written_bare digits
empty_tuple = refl

pub slip : by_conditions (calls "=>" (word "$1" ∷ number 5 ∷ []) ∷ []) ≡ says "clause 1: condition 1: no function '=>'; '>=' is meant?"
unfolding is_written_bare digits
slip = refl

pub slip_of_words : by_conditions (calls "gt" (word "$1" ∷ number 0 ∷ []) ∷ []) ≡ says "clause 1: condition 1: no function gt; '>' is meant?"
unfolding is_written_bare digits
slip_of_words = refl

pub no_tracer : by_body for_calls (calls "trace" (brackets [] ∷ brackets (calls "tracer" (word "x" ∷ []) ∷ []) ∷ []) ∷ []) ≡ says "clause 1: body 1: tracer of OTP 27 isn't modelled"
unfolding is_written_bare digits
no_tracer = refl

-- a call itself comes before its arguments
pub slip_before_argument : by_conditions (calls "&&" (word "$7" ∷ word "true" ∷ []) ∷ []) ≡ says "clause 1: condition 1: no function '&&'; 'andalso' is meant?"
unfolding is_written_bare digits
slip_before_argument = refl

pub tuple_as_call : by_conditions (calls "==" (calls "a" (word "$1" ∷ []) ∷ word "$1" ∷ []) ∷ []) ≡ says "clause 1: condition 1: no function a/1; a tuple is written {{a,'$1'}}"
unfolding is_written_bare digits
tuple_as_call = refl

pub constant_of_two : by_conditions (calls "const" (number 1 ∷ number 2 ∷ []) ∷ []) ≡ says "clause 1: condition 1: const takes 1 argument, found 2"
unfolding is_written_bare digits
constant_of_two = refl

-- what {const,T} gives isn't read
pub constant_of_any : by_conditions (calls "const" (calls "a" (word "$9" ∷ []) ∷ []) ∷ []) ≡ None
unfolding is_written_bare digits
constant_of_any = refl

pub count_of_one : by_conditions (calls "is_atom" [] ∷ []) ≡ says "clause 1: condition 1: is_atom takes 1 argument, found 0"
unfolding is_written_bare digits
count_of_one = refl

pub count_of_two : by_conditions (calls "element" (number 1 ∷ []) ∷ []) ≡ says "clause 1: condition 1: element takes 2 arguments, found 1"
unfolding is_written_bare digits
count_of_two = refl

pub count_of_some : by_conditions (calls "and" [] ∷ []) ≡ says "clause 1: condition 1: 'and' takes 1 argument or more, found 0"
unfolding is_written_bare digits
count_of_some = refl

pub count_of_either : by_body for_calls (calls "enable_trace" [] ∷ []) ≡ says "clause 1: body 1: enable_trace takes 1 or 2 arguments, found 0"
unfolding is_written_bare digits
count_of_either = refl

pub action_in_condition : by_conditions (calls "message" (number 1 ∷ []) ∷ []) ≡ says "clause 1: condition 1: message stands in bodies alone"
unfolding is_written_bare digits
action_in_condition = refl

pub caller_of_send : by_body for_sends (calls "caller" [] ∷ []) ≡ says "clause 1: body 1: caller stands in bodies of specifications for calls alone"
unfolding is_written_bare digits
caller_of_send = refl

pub silent_of_receive : by_body for_receives (calls "silent" (word "true" ∷ []) ∷ []) ≡ says "clause 1: body 1: silent stands in bodies of specifications for calls and sends alone"
unfolding is_written_bare digits
silent_of_receive = refl

pub unsupported_there : by_body for_calls (brackets (calls "display" [] ∷ []) ∷ []) ≡ says "clause 1: body 1: unsupported function display"
unfolding is_written_bare digits
unsupported_there = refl

-- ---- commands

-- m:f/1 is exported, and m:g/0 isn't
abbrev two_functions : Exports
two_functions = record {
  functions =
      (record { module_name = codes "m"; function_name = codes "f"; arity = 1 }, true)
      ∷ (record { module_name = codes "m"; function_name = codes "g"; arity = 0 }, false)
      ∷ [];
  processes = 1;
}

-- <0.100.0> alone is alive
abbrev at_start : Session
at_start = new_session live (alive_at_start 1)

abbrev of_command : Session → Command → Option (List ℕ)
of_command s c = option_map command_reason_text (command_reason two_functions s c)

abbrev of_processes : (procs how flags : Tree) → Option (List ℕ)
of_processes procs how flags = of_command at_start (set_processes (codes "s") procs how flags)

abbrev of_function : (mfa spec options : Tree) → Option (List ℕ)
of_function mfa spec options = of_command at_start (set_function (codes "s") mfa spec options)

-- {m,F,A}
abbrev in_module : String → ℕ → Tree
in_module f n = braces (word "m" ∷ word f ∷ number n ∷ [])

pub before_creation : of_command (new_session absent (alive_at_start 1)) (destroy (codes "s")) ≡ says "the session isn't created yet"
unfolding is_written_bare digits
before_creation = refl

pub created_twice : of_command at_start (create (codes "s") (codes "t")) ≡ says "the session exists already"
unfolding is_written_bare digits
created_twice = refl

pub after_destruction : of_command (new_session destroyed (alive_at_start 1)) (set_send (codes "s") (word "true")) ≡ says "the session is destroyed"
unfolding is_written_bare digits
after_destruction = refl

-- it replies `false`
pub destroyed_twice : of_command (new_session destroyed (alive_at_start 1)) (destroy (codes "s")) ≡ None
unfolding is_written_bare digits
destroyed_twice = refl

-- Procs comes first
pub no_processes_there : of_processes (word "every") (word "yes") (word "send") ≡ says "Procs is a pid, all, existing or new, found every"
unfolding is_written_bare digits
no_processes_there = refl

pub no_how_there : of_processes (pid 120) (word "yes") (word "send") ≡ says "How is true or false, found yes"
unfolding is_written_bare digits
no_how_there = refl

pub flags_no_list : of_processes (pid 120) (word "true") (word "send") ≡ says "Flags is a list of flags, found send"
unfolding is_written_bare digits
flags_no_list = refl

pub no_flag_there : of_processes (pid 120) (word "true") (brackets (word "send" ∷ word "sends" ∷ word "calls" ∷ [])) ≡ says "no flag sends; is send meant?"
unfolding is_written_bare digits
no_flag_there = refl

pub number_no_flag : of_processes (pid 120) (word "true") (brackets (number 1 ∷ []))
    ≡ says "no flag 1; the flags are send, 'receive', call, procs, silent, arity, set_on_spawn, set_on_first_spawn, set_on_link, set_on_first_link"
unfolding is_written_bare digits
number_no_flag = refl

pub near_receive : of_processes (pid 120) (word "true") (brackets (word "recieve" ∷ [])) ≡ says "no flag recieve; is 'receive' meant?"
unfolding is_written_bare digits
near_receive = refl

pub flag_of_otp : of_processes (pid 120) (word "true") (brackets (word "timestamp" ∷ []))
    ≡ says "no flag timestamp: it is a flag of OTP 27 that isn't modelled; the flags are send, 'receive', call, procs, silent, arity, set_on_spawn, set_on_first_spawn, set_on_link, set_on_first_link"
unfolding is_written_bare digits
flag_of_otp = refl

pub flag_of_dbg : of_processes (pid 120) (word "true") (brackets (word "m" ∷ []))
    ≡ says "no flag m: in dbg it is [send,'receive']; the flags are send, 'receive', call, procs, silent, arity, set_on_spawn, set_on_first_spawn, set_on_link, set_on_first_link"
unfolding is_written_bare digits
flag_of_dbg = refl

pub not_alive_there : of_processes (pid 120) (word "true") (brackets (word "send" ∷ [])) ≡ says "<0.120.0> isn't alive"
unfolding is_written_bare digits
not_alive_there = refl

pub alive_there : of_processes (pid 100) (word "true") (brackets (word "send" ∷ [])) ≡ None
unfolding is_written_bare digits
alive_there = refl

-- the trace pattern comes before the others
pub no_pattern_there : of_function (braces (word "m" ∷ word "f" ∷ [])) (word "a") (word "b") ≡ says "MFA is {M,F,A}, {M,F,'_'}, {M,'_','_'} or {'_','_','_'}, A from 0 to 255, found {m,f}"
unfolding is_written_bare digits
no_pattern_there = refl

pub option_of_otp : of_function (in_module "f" 1) (word "true") (brackets (word "call_count" ∷ [])) ≡ says "Opts is [], [global] or [local], found [call_count]: call_count of OTP 27 isn't modelled"
unfolding is_written_bare digits
option_of_otp = refl

pub setting_of_otp : of_function (in_module "f" 1) (word "restart") (brackets []) ≡ says "Spec is true, false or a list of clauses, found restart: restart of OTP 27 isn't modelled"
unfolding is_written_bare digits
setting_of_otp = refl

pub setting_of_dbg : of_function (in_module "f" 1) (word "x") (brackets []) ≡ says "Spec is true, false or a list of clauses, found x: in dbg it is [{'_',[],[{exception_trace}]}]"
unfolding is_written_bare digits
setting_of_dbg = refl

pub no_options_there : of_function (in_module "f" 1) (word "a") (word "b") ≡ says "Opts is [], [global] or [local], found b"
unfolding is_written_bare digits
no_options_there = refl

pub no_specification_there : of_function (in_module "f" 1) (word "a") (brackets []) ≡ says "Spec is true, false or a list of clauses, found a"
unfolding is_written_bare digits
no_specification_there = refl

-- the reply is {unsupported,display}
pub unsupported_of_function : of_function (in_module "f" 1) (brackets (of_one [] (calls "display" (word "$1" ∷ []) ∷ []) ∷ [])) (brackets []) ≡ says "clause 1: body 1: unsupported function display"
unfolding is_written_bare digits
unsupported_of_function = refl

pub specification_of_send : of_command at_start (set_send (codes "s") (brackets (of_one [] (calls "caller" [] ∷ []) ∷ []))) ≡ says "clause 1: body 1: caller stands in bodies of specifications for calls alone"
unfolding is_written_bare digits
specification_of_send = refl

pub specification_of_receive : of_command at_start (set_receive (codes "s") (number 1)) ≡ says "Spec is true, false or a list of clauses, found 1"
unfolding is_written_bare digits
specification_of_receive = refl

-- of another arity there is one
pub none_matches : of_function (in_module "f" 3) (word "true") (brackets []) ≡ says "no function matches; is m:f/1 meant?"
unfolding is_written_bare digits
none_matches = refl

-- of the same name there is one in another module
pub none_in_module : of_function (braces (word "n" ∷ word "g" ∷ word "_" ∷ [])) (word "true") (brackets (word "local" ∷ [])) ≡ says "no function matches; is m:g/0 meant?"
unfolding is_written_bare digits
none_in_module = refl

-- of another name the first of the module
pub none_of_name : of_function (in_module "h" 0) (word "true") (brackets []) ≡ says "no function matches; is m:f/1 meant?"
unfolding is_written_bare digits
none_of_name = refl

-- nothing is near
pub none_near : of_function (braces (word "n" ∷ word "h" ∷ number 0 ∷ [])) (word "true") (brackets []) ≡ says "no function matches"
unfolding is_written_bare digits
none_near = refl

pub none_of_module : of_function (braces (word "n" ∷ word "_" ∷ word "_" ∷ [])) (word "true") (brackets []) ≡ says "no function matches"
unfolding is_written_bare digits
none_of_module = refl

pub none_of_exported : of_function (in_module "g" 0) (word "true") (brackets []) ≡ says "no exported function matches; [local] is for the others too"
unfolding is_written_bare digits
none_of_exported = refl

pub one_matches : of_function (in_module "g" 0) (word "true") (brackets (word "local" ∷ [])) ≡ None
unfolding is_written_bare digits
one_matches = refl

-- ---- traps of commands that are done

-- {'_',[],Body}
abbrev of_any : List Tree → Tree
of_any bs = braces (word "_" ∷ brackets [] ∷ brackets bs ∷ [])

-- {['_',..],[],[]}, with a head of so many
abbrev of_head_alone : List Tree → Tree
of_head_alone ts = braces (brackets ts ∷ brackets [] ∷ brackets [] ∷ [])

pub action_as_constant : of_function (in_module "f" 1) (brackets (of_any (word "return_trace" ∷ []) ∷ [])) (brackets []) ≡ says "clause 1: body 1: return_trace is a constant, and no call of the action"
unfolding is_written_bare digits
action_as_constant = refl

-- an action that is called, and an atom that names none
pub action_as_call : of_function (in_module "f" 1) (brackets (of_any (calls "return_trace" [] ∷ word "true" ∷ []) ∷ [])) (brackets []) ≡ None
unfolding is_written_bare digits
action_as_call = refl

-- the first expression of the first clause that is one
pub action_in_second_clause : of_function (in_module "f" 1)
    (brackets (of_one [] [] ∷ of_any (calls "return_trace" [] ∷ calls "enable_trace" (word "calls" ∷ []) ∷ word "silent" ∷ []) ∷ [])) (brackets [])
    ≡ says "clause 2: body 2: enable_trace has no effect, calls is no flag"
unfolding is_written_bare digits
action_in_second_clause = refl

pub head_of_other_arity : of_function (in_module "f" 1) (brackets (of_head_alone (word "_" ∷ word "_" ∷ []) ∷ [])) (brackets []) ≡ says "clause 1: the head has 2 elements, no function that is traced has as many arguments"
unfolding is_written_bare digits
head_of_other_arity = refl

-- of the functions of the module one has no argument, and isn't exported
pub head_of_unexported : of_function (braces (word "m" ∷ word "_" ∷ word "_" ∷ [])) (brackets (of_head_alone [] ∷ [])) (brackets []) ≡ says "clause 1: the head has 0 elements, no function that is traced has as many arguments"
unfolding is_written_bare digits
head_of_unexported = refl

pub head_of_local : of_function (braces (word "m" ∷ word "_" ∷ word "_" ∷ [])) (brackets (of_head_alone [] ∷ [])) (brackets (word "local" ∷ [])) ≡ None
unfolding is_written_bare digits
head_of_local = refl

-- where no function matches, that is said
pub none_matches_first : of_function (in_module "f" 3) (brackets (of_any (word "return_trace" ∷ []) ∷ [])) (brackets []) ≡ says "no function matches; is m:f/1 meant?"
unfolding is_written_bare digits
none_matches_first = refl

pub head_of_send : of_command at_start (set_send (codes "s") (brackets (of_head_alone (word "_" ∷ []) ∷ []))) ≡ says "clause 1: the head has 1 elements, the list of a send is [Receiver,Message]"
unfolding is_written_bare digits
head_of_send = refl

pub mark_of_send : of_command at_start (set_send (codes "s") (brackets (of_any (calls "return_trace" [] ∷ []) ∷ []))) ≡ says "clause 1: body 1: return_trace has no effect on a send"
unfolding is_written_bare digits
mark_of_send = refl

pub head_of_receive : of_command at_start (set_receive (codes "s") (brackets (of_head_alone (word "_" ∷ word "_" ∷ []) ∷ [])))
    ≡ says "clause 1: the head has 2 elements, the list of a receive is [Node,Sender,Message]"
unfolding is_written_bare digits
head_of_receive = refl

pub send_by_two : of_command at_start (set_send (codes "s") (brackets (of_head_alone (word "_" ∷ word "_" ∷ []) ∷ []))) ≡ None
unfolding is_written_bare digits
send_by_two = refl

-- `true` has no clauses, nor has [] or `false`
pub without_clauses : of_command at_start (set_receive (codes "s") (brackets [])) ≡ None
unfolding is_written_bare digits
without_clauses = refl

-- ---- replies

pub reply_of_trap : reply_text two_functions at_start (set_function (codes "s") (braces (word "m" ∷ word "_" ∷ word "_" ∷ [])) (brackets (of_any (word "silent" ∷ []) ∷ [])) (brackets (word "local" ∷ [])))
    ≡ codes "replies 2: clause 1: body 1: silent is a constant, and no call of the action"
unfolding is_written_bare digits
reply_of_trap = refl

pub reply_of_no_flag : reply_text two_functions at_start (set_processes (codes "s") (word "all") (word "true") (brackets (word "recv" ∷ [])))
    ≡ codes "replies badarg: no flag recv; the flags are send, 'receive', call, procs, silent, arity, set_on_spawn, set_on_first_spawn, set_on_link, set_on_first_link"
unfolding is_written_bare digits
reply_of_no_flag = refl

pub reply_of_unsupported : reply_text two_functions at_start (set_send (codes "s") (brackets (of_one (calls "bsl" (number 1 ∷ number 2 ∷ []) ∷ []) [] ∷ [])))
    ≡ codes "replies {unsupported,'bsl'}: clause 1: condition 1: unsupported function 'bsl'"
unfolding is_written_bare digits
reply_of_unsupported = refl

pub reply_of_no_match : reply_text two_functions at_start (set_function (codes "s") (in_module "f" 3) (word "false") (brackets [])) ≡ codes "replies 0: no function matches; is m:f/1 meant?"
unfolding is_written_bare digits
reply_of_no_match = refl

pub reply_of_one : reply_text two_functions at_start (set_function (codes "s") (in_module "f" 1) (word "true") (brackets [])) ≡ codes "replies 1"
unfolding is_written_bare digits
reply_of_one = refl
