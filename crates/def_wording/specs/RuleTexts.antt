-- What of a form breaks a static rule, and the text that says it (own): refusals 7 to 13.
-- Depends on the rules, and on which function is probably meant by one that isn't there. That something of a form breaks a rule is said there; here it is which function, variable, session or number does.
use Rattle.std.specs.Prelude.{ℕ, ◌+◌, ◌-◌, ◌^◌, min, nat_lt, Bool, false, ◌&&◌, not, List, [], ◌∷◌, ◌++◌, length, take, drop, flat_map, Option, Some, None, codes, decimal, if◌then◌else◌}
use Rattle.std.specs.List.{count_by}
use Rattle.std.specs.Option.{option_map, option_or}
use Rattle.std.specs.Str.{bytes_eq}
use Rattle.def_term.specs.Tree.{Tree, int, atom, pid, tuple, list, Trees, none, more}
use Rattle.def_term.specs.Names.{Name, Mfa, same_mfa}
use Rattle.def_term.specs.Text.{atom_text, is_among}
use Rattle.def_script.specs.Limits.{STEPS, COMMANDS}
use Rattle.def_script.specs.Exports.{visible}
use Rattle.def_script.specs.Program.{is_variable, Step, Function, mfa_of, Entry, entry_mfa, Command, create, session_of, Form, declares, starts, controls}
use Rattle.def_script.specs.Rules.{Rule, duplicate, undeclared, not_exported, unbound, tracer_taken, wrong_arity, past_limit, declares_one, is_declared_at_all, is_internal, is_misnamed, form_functions, named_by, named_with_module, bound_before, terms_of, commands_of, creates_session, gives_tracer, first_passing, is_function, is_process, is_creation}
use Rattle.def_explain.specs.NearestFunctions.{nearest_to}
use Rattle.def_explain.specs.ReasonTexts.{meant_text}
use Rattle.def_wording.specs.Firsts.{first_with_earlier}

-- ---- reasons

-- why naming a function breaks the rule
pub data NameReason : Type 0 where
  -- 8: no form declares it; the declared one that is probably meant
  without_declaration : Mfa → (meant : Option Mfa) → NameReason
  -- 9: it is internal
  of_internal : Mfa → NameReason
  -- 12: it is declared with these numbers of parameters
  of_other_arity : Mfa → List ℕ → NameReason

-- what breaks the rule
pub data RuleReason : Type 0 where
  -- a function that is named, and one that the step with this number names
  of_name : NameReason → RuleReason
  of_name_in_step : NameReason → ℕ → RuleReason
  -- 7: a function that the form with this number declares too; a session that is created again
  declared_too : Mfa → ℕ → RuleReason
  created_twice : Name → RuleReason
  -- 8: a session that no earlier command creates
  without_creation : Name → RuleReason
  -- 10: a variable in a step of a function, and in the arguments of a process
  free_in_step : Name → ℕ → Mfa → RuleReason
  free_in_process : Name → RuleReason
  -- 11: a tracer, and its session
  tracer_of : (tracer session : Name) → RuleReason
  -- 13: so many steps of a function; so many of one kind up to the form
  many_steps : ℕ → Mfa → RuleReason
  many_functions : ℕ → RuleReason
  many_processes : ℕ → RuleReason
  many_commands : ℕ → RuleReason
  many_sessions : ℕ → RuleReason

-- ---- texts

-- M:F/N
abbrev pub function_text : Mfa → List ℕ
function_text f = atom_text f.module_name ++ codes ":" ++ atom_text f.function_name ++ codes "/" ++ decimal f.arity

-- each number, with these words before the first and `or` before the others
abbrev pub numbers_after : List ℕ → List ℕ → List ℕ
numbers_after between [] = []
numbers_after between (n ∷ ns) = between ++ decimal n ++ numbers_after (codes " or ") ns

-- the arities with which it is declared
abbrev pub arities_text : List ℕ → List ℕ
arities_text ns = numbers_after (codes " is declared with the arity ") ns ++ codes " alone"

-- so many of one kind up to the form
abbrev pub total_text : ℕ → List ℕ → List ℕ
total_text n what = codes ": " ++ decimal n ++ what ++ codes " up to here"

-- a function that is named, and why that breaks the rule
abbrev pub name_reason_text : NameReason → List ℕ
name_reason_text (without_declaration f meant) = codes ": function " ++ function_text f
name_reason_text (of_internal f) = codes ": function " ++ function_text f ++ codes " is internal"
name_reason_text (of_other_arity f ns) = codes ": function " ++ function_text f ++ arities_text ns

-- which is probably meant by one that no form declares
abbrev pub name_hint_text : NameReason → List ℕ
name_hint_text (without_declaration f meant) = meant_text meant
name_hint_text r = []

-- the text, after the words of the rule
abbrev pub rule_reason_text : RuleReason → List ℕ
rule_reason_text (of_name r) = name_reason_text r ++ name_hint_text r
rule_reason_text (of_name_in_step r n) = name_reason_text r ++ codes ", in step " ++ decimal n ++ name_hint_text r
rule_reason_text (declared_too f n) = codes ": function " ++ function_text f ++ codes ", in form " ++ decimal n ++ codes " too"
rule_reason_text (created_twice s) = codes ": session " ++ atom_text s
rule_reason_text (without_creation s) = codes ": session " ++ atom_text s ++ codes ", which no earlier command creates"
rule_reason_text (free_in_step v n f) = codes ": " ++ atom_text v ++ codes " in step " ++ decimal n ++ codes " of function " ++ function_text f
rule_reason_text (free_in_process v) = codes ": " ++ atom_text v ++ codes " in the arguments of a process, where no variable is"
rule_reason_text (tracer_of t s) = codes ": " ++ atom_text t ++ codes " is the tracer of session " ++ atom_text s
rule_reason_text (many_steps n f) = codes ": " ++ decimal n ++ codes " steps in function " ++ function_text f
rule_reason_text (many_functions n) = total_text n (codes " functions")
rule_reason_text (many_processes n) = total_text n (codes " processes")
rule_reason_text (many_commands n) = total_text n (codes " commands")
rule_reason_text (many_sessions n) = total_text n (codes " sessions")

-- nothing where there is no reason
abbrev pub rule_reasons_text : Option RuleReason → List ℕ
rule_reasons_text None = []
rule_reasons_text (Some r) = rule_reason_text r

-- ---- functions

-- the numbers of parameters with which forms declare the function's module and name
abbrev pub arities_in : Form → Mfa → List ℕ
arities_in (declares k) f = if bytes_eq k.module_name f.module_name && bytes_eq k.function_name f.function_name then length k.params ∷ [] else []
arities_in g f = []

-- in all of these forms
abbrev pub declared_arities : List Form → Mfa → List ℕ
declared_arities fs f = flat_map (λ g. arities_in g f) fs

-- of all functions that these forms declare, the one that is probably meant
abbrev pub nearest_declared : List Form → Mfa → Option Mfa
nearest_declared fs f = nearest_to f.module_name f.function_name (visible (form_functions fs))

-- naming the function breaks the rule
abbrev pub breaks_by_name : Rule → List Form → Mfa → Bool
breaks_by_name undeclared fs f = not (is_declared_at_all fs f)
breaks_by_name not_exported fs f = is_internal fs f
breaks_by_name wrong_arity fs f = is_misnamed fs f
breaks_by_name r fs f = false

-- why it does
abbrev pub name_reason_of : Rule → List Form → Mfa → NameReason
name_reason_of not_exported fs f = of_internal f
name_reason_of wrong_arity fs f = of_other_arity f (declared_arities fs f)
name_reason_of r fs f = without_declaration f (nearest_declared fs f)

-- where it does
abbrev pub named_reason : Rule → List Form → Mfa → Option RuleReason
named_reason r fs f = if breaks_by_name r fs f then Some (of_name (name_reason_of r fs f)) else None

-- what a step of a function of this module names; rule 9 passes over a call without the module
abbrev pub names_of_step : Rule → Name → Step → Option Mfa
names_of_step not_exported m s = named_with_module s
names_of_step r m s = named_by m s

-- what is named, where that breaks the rule
abbrev pub wrong_name : Rule → List Form → Option Mfa → Option Mfa
wrong_name r fs None = None
wrong_name r fs (Some f) = if breaks_by_name r fs f then Some f else None

-- such a function of a step after these, with the step's number
abbrev pub step_name : Rule → List Form → Name → List Step → Step → Option (Mfa × ℕ)
step_name r fs m before s = option_map (λ f. (f, length before + 1)) (wrong_name r fs (names_of_step r m s))

-- why the step with this number breaks the rule by naming the function
abbrev pub step_reason_of : Rule → List Form → Mfa × ℕ → RuleReason
step_reason_of r fs p = of_name_in_step (name_reason_of r fs p.0) p.1

-- of the steps of a function
abbrev pub steps_name_reason : Rule → List Form → Function → Option RuleReason
steps_name_reason r fs k = option_map (step_reason_of r fs) (first_with_earlier (step_name r fs k.module_name) [] k.steps)

-- the number of a form after these that declares the function
abbrev pub again_at : Mfa → List Form → Form → Option ℕ
again_at f before g = if declares_one (λ k. same_mfa (mfa_of k) f) g then Some (length before + 1) else None

-- of a function that one of these forms declares
abbrev pub again_reason : Mfa → List Form → Option RuleReason
again_reason f earlier = option_map (declared_too f) (first_with_earlier (again_at f) [] earlier)

-- ---- variables

abbrev mutual
  -- the first variable of the term that is none of these, left to right
  pub first_free : List Name → Tree → Option Name
  first_free bound (int z) = None
  first_free bound (atom s) = if is_variable s && not (is_among bound s) then Some s else None
  first_free bound (pid n) = None
  first_free bound (tuple ts) = first_free_of bound ts
  first_free bound (list ts) = first_free_of bound ts

  -- of several terms
  pub first_free_of : List Name → Trees → Option Name
  first_free_of bound none = None
  first_free_of bound (more t ts) = option_or (first_free bound t) (first_free_of bound ts)

-- the same, of a list of them
abbrev pub first_free_in : List Name → List Tree → Option Name
first_free_in bound [] = None
first_free_in bound (t ∷ ts) = option_or (first_free bound t) (first_free_in bound ts)

-- such a variable of a step of the function after these, with the step's number
abbrev pub free_at : Function → List Step → Step → Option (Name × ℕ)
free_at k before s = option_map (λ v. (v, length before + 1)) (first_free_in (bound_before k.params before) (terms_of s))

-- why the step with this number breaks the rule by the variable
abbrev pub free_reason_of : Function → Name × ℕ → RuleReason
free_reason_of k p = free_in_step p.0 p.1 (mfa_of k)

-- of the steps of a function
abbrev pub free_reason : Function → Option RuleReason
free_reason k = option_map (free_reason_of k) (first_with_earlier (free_at k) [] k.steps)

-- of the arguments of a process
abbrev pub entry_free_reason : Entry → Option RuleReason
entry_free_reason e = option_map free_in_process (first_free_in [] e.args)

-- ---- sessions

-- the session that the first passing command is to
abbrev pub session_passing : (Command → Bool) → List Command → Option Name
session_passing p cs = option_map session_of (first_passing p cs)

-- what a creation after these commands names, and the session that one of them creates with the same name
abbrev pub session_holder : List Command → Command → Option (Name × Name)
session_holder before (create s t) = option_map (λ n. (s, n)) (session_passing (creates_session s) before)
session_holder before c = None

-- the tracer of a creation after these commands, and the session that one of them creates with it
abbrev pub tracer_holder : List Command → Command → Option (Name × Name)
tracer_holder before (create s t) = option_map (λ n. (t, n)) (session_passing (gives_tracer t) before)
tracer_holder before c = None

-- of commands, after these
abbrev pub created_again_reason : List Command → List Command → Option RuleReason
created_again_reason before cs = option_map (λ p. created_twice p.0) (first_with_earlier session_holder before cs)

-- of commands, after these
abbrev pub tracer_reason : List Command → List Command → Option RuleReason
tracer_reason before cs = option_map (λ p. tracer_of p.0 p.1) (first_with_earlier tracer_holder before cs)

-- the name, where there is no session
abbrev pub unless_there : Name → Option Name → Option Name
unless_there n None = Some n
unless_there n (Some s) = None

-- the session of another command after these, where none of them creates it
abbrev pub unmade_session : List Command → Command → Option Name
unmade_session before (create s t) = None
unmade_session before c = unless_there (session_of c) (session_passing (creates_session (session_of c)) before)

-- of commands, after these
abbrev pub unmade_reason : List Command → List Command → Option RuleReason
unmade_reason before cs = option_map without_creation (first_with_earlier unmade_session before cs)

-- ---- limits

-- 2 ^ 64 - 1 stands for any larger number, which no script's refusal has
abbrev pub up_to_greatest : ℕ → ℕ
up_to_greatest n = min n (2 ^ 64 - 1)

-- so many functions, processes, commands and creations up to the form
abbrev pub limit_reason : List Form → Form → RuleReason
limit_reason earlier (declares k) = if nat_lt STEPS (length k.steps) then many_steps (length k.steps) (mfa_of k) else many_functions (up_to_greatest (count_by is_function earlier + 1))
limit_reason earlier (starts e) = many_processes (up_to_greatest (count_by is_process earlier + 1))
limit_reason earlier (controls cs) =
    if nat_lt COMMANDS (length (commands_of earlier) + length cs) then many_commands (up_to_greatest (length (commands_of earlier) + length cs)) else
    many_sessions (up_to_greatest (count_by is_creation (commands_of earlier) + count_by is_creation cs))

-- ---- one form

-- what of a function breaks the rule
abbrev pub function_reason_of : List Form → List Form → Function → Rule → Option RuleReason
function_reason_of fs earlier k duplicate = again_reason (mfa_of k) earlier
function_reason_of fs earlier k unbound = free_reason k
function_reason_of fs earlier k r = steps_name_reason r fs k

-- of a process
abbrev pub entry_reason : List Form → Entry → Rule → Option RuleReason
entry_reason fs e unbound = entry_free_reason e
entry_reason fs e r = named_reason r fs (entry_mfa e)

-- of commands, after those of the forms before them
abbrev pub commands_reason : List Form → List Command → Rule → Option RuleReason
commands_reason earlier cs duplicate = created_again_reason (commands_of earlier) cs
commands_reason earlier cs undeclared = unmade_reason (commands_of earlier) cs
commands_reason earlier cs tracer_taken = tracer_reason (commands_of earlier) cs
commands_reason earlier cs r = None

-- of the form after these, for a rule other than that on limits
abbrev pub form_reason : List Form → List Form → Form → Rule → Option RuleReason
form_reason fs earlier (declares k) r = function_reason_of fs earlier k r
form_reason fs earlier (starts e) r = entry_reason fs e r
form_reason fs earlier (controls cs) r = commands_reason earlier cs r

-- of the form after these
abbrev pub rule_reason : List Form → List Form → Form → Rule → Option RuleReason
rule_reason fs earlier f past_limit = Some (limit_reason earlier f)
rule_reason fs earlier f r = form_reason fs earlier f r

-- of the first of these forms, if there is one
abbrev pub rule_reason_first : List Form → List Form → List Form → Rule → Option RuleReason
rule_reason_first fs earlier [] r = None
rule_reason_first fs earlier (f ∷ later) r = rule_reason fs earlier f r

-- of form n, counted from 1
abbrev pub rule_reason_in : List Form → ℕ → Rule → Option RuleReason
rule_reason_in fs n r = rule_reason_first fs (take (n - 1) fs) (drop (n - 1) fs) r
