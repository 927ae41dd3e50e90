-- The static rules 7 to 13 of scripts (own), and the first form that breaks one.
-- Depends on the program's data.
use Rattle.std.specs.Prelude.{◌≡◌, ℕ, suc, ◌+◌, ◌≤◌, nat_le, nat_lt, Bool, true, false, ◌&&◌, ◌||◌, not, List, [], ◌∷◌, ◌++◌, length, flat_map, Option, Some, None, if◌then◌else◌, option_to_list}
use Rattle.std.specs.List.{list_any, count_by}
use Rattle.std.specs.Str.{bytes_eq}
use Rattle.def_term.specs.Tree.{Tree, int, atom, pid, tuple, list, Trees, none, more}
use Rattle.def_term.specs.Names.{Name, Mfa, same_mfa}
use Rattle.def_term.specs.Text.{is_among}
use Rattle.def_script.specs.Limits.{FUNCTIONS, STEPS, INITIAL_PROCESSES, COMMANDS, SESSIONS}
use Rattle.def_script.specs.Program.{is_variable, Step, send, receive, call_remote, call_local, catch, spawn, link, unlink, give_back, raise, Function, mfa_of, Entry, entry_mfa, Command, create, session_of, Form, declares, starts, controls}
use Rattle.def_script.specs.Shapes.{self_name}

-- the rules by their names; their numbers are those of the refusals
pub data Rule : Type 0 where
  duplicate : Rule
  undeclared : Rule
  not_exported : Rule
  unbound : Rule
  tracer_taken : Rule
  wrong_arity : Rule
  past_limit : Rule

-- the number of its refusal
abbrev pub rule_number : Rule → ℕ
rule_number duplicate = 7
rule_number undeclared = 8
rule_number not_exported = 9
rule_number unbound = 10
rule_number tracer_taken = 11
rule_number wrong_arity = 12
rule_number past_limit = 13

-- by rising number
abbrev pub rules : List Rule
rules = duplicate ∷ undeclared ∷ not_exported ∷ unbound ∷ tracer_taken ∷ wrong_arity ∷ past_limit ∷ []

-- some element of the list passes, given those before it
abbrev pub any_with_earlier : {X : Type 0} → (List X → X → Bool) → List X → List X → Bool
any_with_earlier p earlier [] = false
any_with_earlier p earlier (x ∷ xs) = p earlier x || any_with_earlier p (earlier ++ x ∷ []) xs

-- it is there, and passes
abbrev pub on_some : {X : Type 0} → (X → Bool) → Option X → Bool
on_some p None = false
on_some p (Some x) = p x

-- ---- what forms declare, start and order

-- the function that the form declares, if it declares one
abbrev pub function_of_form : Form → List Function
function_of_form (declares k) = k ∷ []
function_of_form f = []

-- the process that the form starts, if it starts one
abbrev pub entry_of_form : Form → List Entry
entry_of_form (starts e) = e ∷ []
entry_of_form f = []

-- the commands that the form holds
abbrev pub commands_of_form : Form → List Command
commands_of_form (controls cs) = cs
commands_of_form f = []

-- the functions of all forms in their order
abbrev pub form_functions : List Form → List Function
form_functions fs = flat_map function_of_form fs

-- the initial processes of all forms in their order
abbrev pub entries_of : List Form → List Entry
entries_of fs = flat_map entry_of_form fs

-- the control list: the commands of all control forms in their order
abbrev pub commands_of : List Form → List Command
commands_of fs = flat_map commands_of_form fs

-- ---- functions that are declared, and functions that are named

-- the form declares a function that passes
abbrev pub declares_one : (Function → Bool) → Form → Bool
declares_one p (declares k) = p k
declares_one p f = false

-- with that number of parameters
abbrev pub is_declared : List Form → Mfa → Bool
is_declared fs f = list_any (declares_one (λ k. same_mfa (mfa_of k) f)) fs

-- with any number of parameters
abbrev pub is_declared_at_all : List Form → Mfa → Bool
is_declared_at_all fs f = list_any (declares_one (λ k. bytes_eq k.module_name f.module_name && bytes_eq k.function_name f.function_name)) fs

-- some form declares it so as internal
abbrev pub is_internal : List Form → Mfa → Bool
is_internal fs f = list_any (declares_one (λ k. same_mfa (mfa_of k) f && not k.exported)) fs

-- the function that M, F and these arguments name
abbrev pub function_named : Name → Name → List Tree → Mfa
function_named m f args = record { module_name = m; function_name = f; arity = length args }

-- what a step calls or spawns; a call that doesn't name the module names that of its function. A catch is a call
abbrev pub named_by : Name → Step → Option Mfa
named_by m (call_remote v n f args) = Some (function_named n f args)
named_by m (call_local v f args) = Some (function_named m f args)
named_by m (catch v n f args) = Some (function_named n f args)
named_by m (spawn v n f args) = Some (function_named n f args)
named_by m s = None

-- what a step spawns, or calls with the module
abbrev pub named_with_module : Step → Option Mfa
named_with_module (call_remote v n f args) = Some (function_named n f args)
named_with_module (catch v n f args) = Some (function_named n f args)
named_with_module (spawn v n f args) = Some (function_named n f args)
named_with_module s = None

-- ---- variables

abbrev mutual
  -- whether a variable that is none of these occurs in the term
  pub has_other_variable : List Name → Tree → Bool
  has_other_variable bound (int n) = false
  has_other_variable bound (atom s) = is_variable s && not (is_among bound s)
  has_other_variable bound (pid n) = false
  has_other_variable bound (tuple ts) = have_other_variable bound ts
  has_other_variable bound (list ts) = have_other_variable bound ts

  -- in one of the terms
  pub have_other_variable : List Name → Trees → Bool
  have_other_variable bound none = false
  have_other_variable bound (more t ts) = has_other_variable bound t || have_other_variable bound ts

-- the terms of a step, without its target
abbrev pub terms_of : Step → List Tree
terms_of (send to message) = to ∷ message ∷ []
terms_of (receive v) = []
terms_of (call_remote v m f args) = args
terms_of (call_local v f args) = args
terms_of (catch v m f args) = args
terms_of (spawn v m f args) = args
terms_of (link t) = t ∷ []
terms_of (unlink t) = t ∷ []
terms_of (give_back t) = t ∷ []
terms_of (raise c t) = t ∷ []

-- the variable that the step binds, if it binds one
abbrev pub target_of_step : Step → Option Name
target_of_step (receive v) = v
target_of_step (call_remote v m f args) = v
target_of_step (call_local v f args) = v
target_of_step (catch v m f args) = v
target_of_step (spawn v m f args) = v
target_of_step s = None

-- 'Self', the parameters, and the targets of earlier steps
abbrev pub bound_before : List Name → List Step → List Name
bound_before params earlier = self_name ∷ params ++ flat_map (λ s. option_to_list (target_of_step s)) earlier

-- in one of these terms
abbrev pub any_has_other : List Name → List Tree → Bool
any_has_other bound ts = list_any (has_other_variable bound) ts

-- ---- sessions

-- it creates a session of this name
abbrev pub creates_session : Name → Command → Bool
creates_session n (create s t) = bytes_eq s n
creates_session n c = false

-- it creates a session with this tracer
abbrev pub gives_tracer : Name → Command → Bool
gives_tracer n (create s t) = bytes_eq t n
gives_tracer n c = false

-- an earlier command creates a session of this name
abbrev pub is_created : List Command → Name → Bool
is_created cs n = list_any (creates_session n) cs

-- an earlier creation has this tracer
abbrev pub is_tracer : List Command → Name → Bool
is_tracer cs n = list_any (gives_tracer n) cs

-- ---- the rules. `earlier` are the forms before the form, `fs` all forms of the script

-- creates a session whose name an earlier command creates
abbrev pub creates_again : List Command → Command → Bool
creates_again earlier (create s t) = is_created earlier s
creates_again earlier c = false

-- 7: declares a function whose M, F and number of parameters an earlier form declares; or creates a session whose name an earlier command creates
abbrev pub breaks_duplicate : List Form → Form → Bool
breaks_duplicate earlier (declares k) = is_declared earlier (mfa_of k)
breaks_duplicate earlier (starts e) = false
breaks_duplicate earlier (controls cs) = any_with_earlier creates_again (commands_of earlier) cs

-- is a command other than a creation on a session that no earlier command creates
abbrev pub commands_unmade : List Command → Command → Bool
commands_unmade earlier (create s t) = false
commands_unmade earlier c = not (is_created earlier (session_of c))

-- 8: names (in a call, spawn or process) M and F that no form of the script declares with any number of parameters; or has a command other than a creation on a session that no earlier command creates
abbrev pub breaks_undeclared : List Form → List Form → Form → Bool
breaks_undeclared fs earlier (declares k) = list_any (λ s. on_some (λ f. not (is_declared_at_all fs f)) (named_by k.module_name s)) k.steps
breaks_undeclared fs earlier (starts e) = not (is_declared_at_all fs (entry_mfa e))
breaks_undeclared fs earlier (controls cs) = any_with_earlier commands_unmade (commands_of earlier) cs

-- 9: spawns, starts or calls with the module an internal function: one that some form declares as internal, whatever other forms declare it as
abbrev pub breaks_not_exported : List Form → Form → Bool
breaks_not_exported fs (declares k) = list_any (λ s. on_some (is_internal fs) (named_with_module s)) k.steps
breaks_not_exported fs (starts e) = is_internal fs (entry_mfa e)
breaks_not_exported fs (controls cs) = false

-- 10: has in a step, elsewhere than as that step's target, a variable other than 'Self' that is no parameter and no target
-- of an earlier step of the function; or has a variable in a process form's Args
abbrev pub breaks_unbound : Form → Bool
breaks_unbound (declares k) = any_with_earlier (λ before s. any_has_other (bound_before k.params before) (terms_of s)) [] k.steps
breaks_unbound (starts e) = any_has_other [] e.args
breaks_unbound (controls cs) = false

-- creates a session with a tracer that an earlier creation has
abbrev pub takes_tracer : List Command → Command → Bool
takes_tracer earlier (create s t) = is_tracer earlier t
takes_tracer earlier c = false

-- 11: creates a session with a tracer that an earlier creation has
abbrev pub breaks_tracer_taken : List Form → Form → Bool
breaks_tracer_taken earlier (controls cs) = any_with_earlier takes_tracer (commands_of earlier) cs
breaks_tracer_taken earlier f = false

-- is declared, but not with that number of parameters
abbrev pub is_misnamed : List Form → Mfa → Bool
is_misnamed fs f = is_declared_at_all fs f && not (is_declared fs f)

-- 12: names M and F that are declared, but not with that number of arguments
abbrev pub breaks_arity : List Form → Form → Bool
breaks_arity fs (declares k) = list_any (λ s. on_some (is_misnamed fs) (named_by k.module_name s)) k.steps
breaks_arity fs (starts e) = is_misnamed fs (entry_mfa e)
breaks_arity fs (controls cs) = false

-- a function form
abbrev pub is_function : Form → Bool
is_function f = declares_one (λ k. true) f

-- a process form
abbrev pub is_process : Form → Bool
is_process (starts e) = true
is_process f = false

-- a creation of a session
abbrev pub is_creation : Command → Bool
is_creation (create s t) = true
is_creation c = false

-- holds one or more, of which the last is past the limit
abbrev pub holds_past : ℕ → ℕ → ℕ → Bool
holds_past limit earlier held = nat_lt 0 held && nat_lt limit (earlier + held)

-- 13: is a function or process form past their limit, has more steps than a function may, or holds a command or a creation past theirs
abbrev pub breaks_limit : List Form → Form → Bool
breaks_limit earlier (declares k) = nat_le FUNCTIONS (count_by is_function earlier) || nat_lt STEPS (length k.steps)
breaks_limit earlier (starts e) = nat_le INITIAL_PROCESSES (count_by is_process earlier)
breaks_limit earlier (controls cs) = holds_past COMMANDS (length (commands_of earlier)) (length cs) || holds_past SESSIONS (count_by is_creation (commands_of earlier)) (count_by is_creation cs)

-- the form breaks the rule
abbrev pub breaks : List Form → List Form → Form → Rule → Bool
breaks fs earlier f duplicate = breaks_duplicate earlier f
breaks fs earlier f undeclared = breaks_undeclared fs earlier f
breaks fs earlier f not_exported = breaks_not_exported fs f
breaks fs earlier f unbound = breaks_unbound f
breaks fs earlier f tracer_taken = breaks_tracer_taken earlier f
breaks fs earlier f wrong_arity = breaks_arity fs f
breaks fs earlier f past_limit = breaks_limit earlier f

-- form n of the script, counted from 1, breaks the rule
pub record Breaks (fs : List Form) (n : ℕ) (r : Rule) : Type 0 where
  pub earlier : List Form
  pub breaker : Form
  pub later : List Form
  pub whole : fs ≡ earlier ++ breaker ∷ later
  pub number : n ≡ suc (length earlier)
  pub broken : breaks fs earlier breaker r ≡ true

-- the lowest-numbered form that breaks a rule, and the least number among the rules that it breaks
pub record IsFirstBroken (fs : List Form) (n : ℕ) (r : Rule) : Type 0 where
  pub breaks_it : Breaks fs n r
  pub lowest : (m : ℕ) (q : Rule) → Breaks fs m q → n ≤ m
  pub least : (q : Rule) → Breaks fs n q → rule_number r ≤ rule_number q

-- ---- the first one, computed

-- the first of the list that passes
abbrev pub first_passing : {X : Type 0} → (X → Bool) → List X → Option X
first_passing p [] = None
first_passing p (x ∷ xs) = if p x then Some x else first_passing p xs

-- the least rule that the form breaks
abbrev pub rule_broken : List Form → List Form → Form → Option Rule
rule_broken fs earlier f = first_passing (breaks fs earlier f) rules

-- this form's, or that of a later one
abbrev pub or_later : ℕ → Option Rule → Option (ℕ × Rule) → Option (ℕ × Rule)
or_later n None later = later
or_later n (Some r) later = Some (n, r)

-- of these forms, given those before them
abbrev pub first_broken_from : List Form → List Form → List Form → Option (ℕ × Rule)
first_broken_from fs earlier [] = None
first_broken_from fs earlier (f ∷ rest) = or_later (suc (length earlier)) (rule_broken fs earlier f) (first_broken_from fs (earlier ++ f ∷ []) rest)

-- the lowest-numbered form that breaks a rule, counted from 1, with the least rule that it breaks
abbrev pub first_broken : List Form → Option (ℕ × Rule)
first_broken fs = first_broken_from fs [] fs
