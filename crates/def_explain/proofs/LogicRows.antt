-- Rows: logic on what is no boolean, and on booleans; function commands about functions that have settings, and about others.
use Rattle.std.proofs.Common.{◌≡◌, Bool, true, false, List, [], ◌∷◌, Option, Some, None, pos, codes, refl}
use Rattle.std.specs.Prelude.{replicate}
use Rattle.def_term.specs.Tree.{Tree, int, atom, tuple, list, none, more}
use Rattle.def_term.specs.Names.{Mfa, word}
use Rattle.def_spec.specs.Flags.{no_flags}
use Rattle.def_spec.specs.Functions as fn
use Rattle.def_spec.specs.Matching.{anything}
use Rattle.def_spec.specs.Expressions.{for_calls, Expr, constant, tuple_of, call, and_also, or_else, perform, message, trace, Exprs, no_exprs, and_expr, Context}
use Rattle.def_spec.specs.Outcome.{Clause}
use Rattle.def_script.specs.Program.{Command, set_function, set_send}
use Rattle.def_script.specs.Exports.{Exports}
use Rattle.def_session.specs.Settings.{one, FunctionSetting, Setting, off, plain}
use Rattle.def_session.specs.State.{live, destroyed, new_session, alive_at_start, Session}
use Rattle.def_explain.specs.Differences.{Difference, faults_in_logic, leaves_other_setting, takes_local_setting, logic_difference}
use Rattle.def_explain.specs.CommandDifferences.{command_difference}

-- ---- bodies and conditions, in the process 100

abbrev here : Context
here = record { matched_list = []; self_pid = 100; caller_mfa = None; alive = alive_at_start 2; flags = replicate 64 no_flags }

abbrev of : Exprs → Exprs → Clause
of conditions body = record { head = anything; conditions = conditions; body = body }

abbrev just : Expr → Exprs
just e = and_expr e no_exprs

abbrev both : Expr → Expr → Exprs
both e f = and_expr e (and_expr f no_exprs)

abbrev yes : Expr
yes = constant (word "true")

abbrev seven : Expr
seven = constant (int (pos 7))

abbrev differs_in_body : Expr → Option Difference
differs_in_body e = logic_difference for_calls (of no_exprs (just (perform message (just e)))) [] here

-- {message,{'and',true,7}}, {'or',7,true}, {'not',7} and {'xor',true,7}
pub and_of_a_number : differs_in_body (call fn.all_of (both yes seven)) ≡ Some faults_in_logic
and_of_a_number = refl

pub or_of_a_number : differs_in_body (call fn.one_of (both seven yes)) ≡ Some faults_in_logic
or_of_a_number = refl

pub not_of_a_number : differs_in_body (call fn.is_false (just seven)) ≡ Some faults_in_logic
not_of_a_number = refl

pub xor_of_a_number : differs_in_body (call fn.just_one_of (both yes seven)) ≡ Some faults_in_logic
xor_of_a_number = refl

-- of booleans; another function of a number
pub and_of_booleans : differs_in_body (call fn.all_of (both yes (constant (word "false")))) ≡ None
and_of_booleans = refl

pub size_of_a_number : differs_in_body (call fn.is_boolean (just seven)) ≡ None
size_of_a_number = refl

-- {'andalso',7,true}, {'orelse',7,true}, and {'andalso',true,7}, whose value is 7 on a node; {'orelse',true,7} and {'andalso',false,7} don't come to the number
pub andalso_of_a_number : differs_in_body (and_also (both seven yes)) ≡ Some faults_in_logic
andalso_of_a_number = refl

pub orelse_of_a_number : differs_in_body (or_else (both seven yes)) ≡ Some faults_in_logic
orelse_of_a_number = refl

pub last_of_andalso : differs_in_body (and_also (both yes seven)) ≡ Some faults_in_logic
last_of_andalso = refl

pub after_one_that_is_true : differs_in_body (or_else (both yes seven)) ≡ None
after_one_that_is_true = refl

pub after_one_that_is_false : differs_in_body (and_also (both (constant (word "false")) seven)) ≡ None
after_one_that_is_false = refl

pub andalso_of_booleans : differs_in_body (and_also (both yes (constant (word "false")))) ≡ None
andalso_of_booleans = refl

-- in an element of a tuple, and in the second test of `andalso` where the first is true; not where it is false
pub in_a_tuple : differs_in_body (tuple_of (both yes (call fn.is_false (just seven)))) ≡ Some faults_in_logic
in_a_tuple = refl

pub in_a_later_test : differs_in_body (and_also (both yes (call fn.is_false (just seven)))) ≡ Some faults_in_logic
in_a_later_test = refl

pub in_a_test_that_is_left : differs_in_body (and_also (both (constant (word "false")) (call fn.is_false (just seven)))) ≡ None
in_a_test_that_is_left = refl

pub in_an_alternative : differs_in_body (or_else (both (constant (word "false")) (call fn.is_false (just seven)))) ≡ Some faults_in_logic
in_an_alternative = refl

pub in_an_alternative_that_is_left : differs_in_body (or_else (both yes (call fn.is_false (just seven)))) ≡ None
in_an_alternative_that_is_left = refl

-- of an action's value: {'and',{message,a},{trace,[],[]}} has booleans, {'and',{message,a},{trace,7,[]}} has 'EXIT'
pub of_the_values_of_actions :
    differs_in_body (call fn.all_of (both (perform message (just seven)) (perform trace (both (constant (list none)) (constant (list none)))))) ≡ None
of_the_values_of_actions = refl

pub of_an_action_that_faults :
    differs_in_body (call fn.all_of (both (perform message (just seven)) (perform trace (both seven (constant (list none)))))) ≡ Some faults_in_logic
of_an_action_that_faults = refl

-- in a condition that is true: {'not',{'and',true,7}} has logic on a number, and then on a boolean
pub in_a_condition : logic_difference for_calls (of (just (call fn.is_false (just (call fn.all_of (both yes seven))))) no_exprs) [] here ≡ Some faults_in_logic
in_a_condition = refl

pub in_a_plain_condition : logic_difference for_calls (of (just (call fn.is_false (just (call fn.all_of (both yes (constant (word "false"))))))) no_exprs) [] here ≡ None
in_a_plain_condition = refl

-- ---- function commands: m:f/1 is exported, and m:g/1 isn't

abbrev f : Mfa
f = record { module_name = codes "m"; function_name = codes "f"; arity = 1 }

abbrev g : Mfa
g = record { module_name = codes "m"; function_name = codes "g"; arity = 1 }

abbrev program : Exports
program = record { functions = (f, true) ∷ (g, false) ∷ []; processes = 2 }

abbrev after : List FunctionSetting → Session
after ks = record (new_session live (alive_at_start 2)) { functions = ks }

abbrev about : Mfa → Setting → Bool → FunctionSetting
about m k local = record { covered = one m; setting = k; local = local }

abbrev pattern : Mfa → Tree
pattern m = tuple (more (atom m.module_name) (more (atom m.function_name) (more (int (pos m.arity)) none)))

-- {function,s,{m,F,1},Spec,Opts}
abbrev setting : Mfa → Tree → Tree → Command
setting m spec options = set_function (codes "s") (pattern m) spec options

abbrev local_option : Tree
local_option = list (more (word "local") none)

-- `false` where the setting is local, and the command global; the other way round; and where both are local
pub global_false_of_a_local_setting : command_difference program (after (about f plain true ∷ [])) (setting f (word "false") (list none)) ≡ Some leaves_other_setting
global_false_of_a_local_setting = refl

pub local_false_of_a_global_setting : command_difference program (after (about f plain false ∷ [])) (setting f (word "false") local_option) ≡ Some leaves_other_setting
local_false_of_a_global_setting = refl

pub local_false_of_a_local_setting : command_difference program (after (about f plain true ∷ [])) (setting f (word "false") local_option) ≡ None
local_false_of_a_local_setting = refl

-- where the setting is disabled already, and where there is none
pub false_of_a_disabled_setting : command_difference program (after (about f off true ∷ about f plain true ∷ [])) (setting f (word "false") (list none)) ≡ None
false_of_a_disabled_setting = refl

pub false_of_no_setting : command_difference program (after (about g plain true ∷ [])) (setting f (word "false") (list none)) ≡ None
false_of_no_setting = refl

-- a global setting of all functions of the module where an internal one has a local setting; where an exported one has; and a local setting
abbrev all_of_module : Tree → Command
all_of_module options = set_function (codes "s") (tuple (more (word "m") (more (word "_") (more (word "_") none)))) (word "true") options

pub global_setting_of_an_internal_function : command_difference program (after (about g plain true ∷ [])) (all_of_module (list none)) ≡ Some takes_local_setting
global_setting_of_an_internal_function = refl

pub global_setting_of_an_exported_function : command_difference program (after (about f plain true ∷ [])) (all_of_module (list none)) ≡ None
global_setting_of_an_exported_function = refl

pub local_setting_of_an_internal_function : command_difference program (after (about g plain true ∷ [])) (all_of_module local_option) ≡ None
local_setting_of_an_internal_function = refl

-- a command that is refused, one to a destroyed session, and one that isn't about functions
pub refused_command : command_difference program (after (about g plain true ∷ [])) (set_function (codes "s") (word "m") (word "true") (list none)) ≡ None
refused_command = refl

pub command_to_a_destroyed_session : command_difference program (record (after (about g plain true ∷ [])) { phase = destroyed }) (all_of_module (list none)) ≡ None
command_to_a_destroyed_session = refl

pub send_command : command_difference program (after (about g plain true ∷ [])) (set_send (codes "s") (word "false")) ≡ None
send_command = refl
