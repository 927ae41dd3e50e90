-- What the code's functions, variables and sessions that break rules stand for.
use Rattle.std.specs.Prelude.{ℕ, ◌+◌, Bool, List, [], length, map, flat_map, Option}
use Rattle.std.specs.Option.{option_map}
use Rattle.def_term.specs.Names.{Name, Mfa}
use Rattle.def_script.specs.Program.{Step, Function, Command}
use Rattle.def_script.specs.Rules.{bound_before, creates_session, gives_tracer, terms_of}
use Rattle.def_explain.specs.NearestFunctions.{has_module, has_name, has_both, has_near_name}
use Rattle.def_wording.specs.RuleTexts.{first_free_in, session_holder, tracer_holder}
use Rattle.tn_script.specs.Views.{step_of}
use Rattle.tn_program.specs.Variables.{target_names}
use Rattle.tn_program.specs.FunctionNames.{is_it, is_named_so, is_it_internal}
use Rattle.tn_refusal.specs.declared.callee.Callee.{Callee}
use Rattle.tn_refusal.specs.declared.callee.CalleeInStep.{CalleeInStep}
use Rattle.tn_refusal.specs.declared.callee.DeclarationMatch.{DeclarationMatch}
use Rattle.tn_refusal.specs.declared.callee.DeclarationMatch.TheVariants.{Named, Exact, Internal}
use Rattle.tn_refusal.specs.declared.nearest.Likeness.{Likeness}
use Rattle.tn_refusal.specs.declared.nearest.Likeness.TheVariants as likeness
use Rattle.tn_refusal.specs.declared.variables.TermSite.{TermSite}
use Rattle.tn_refusal.specs.declared.variables.TermSite.TheVariants.{InStep, InArguments}
use Rattle.tn_refusal.specs.declared.variables.VariableInStep.{VariableInStep}
use Rattle.tn_refusal.specs.declared.sessions.Role.{Role}
use Rattle.tn_refusal.specs.declared.sessions.Role.TheVariants.{Session, Tracer}
use Rattle.tn_refusal.specs.declared.sessions.CreatedName.{CreatedName}

abbrev pub callee_seen : {A : Type 0} → Callee A → Mfa
callee_seen f = record { module_name = f.home.now; function_name = f.name.now; arity = f.arity }

-- the function passes for the one that is named
abbrev pub declares_so : DeclarationMatch → Mfa → Function → Bool
declares_so Named f k = is_named_so f.module_name f.function_name k
declares_so Exact f k = is_it f k
declares_so Internal f k = is_it_internal f k

-- the function is so like the one that is named
abbrev pub is_alike : Likeness → Mfa → Mfa → Bool
is_alike likeness.Both f = has_both f.module_name f.function_name
is_alike likeness.Name f = has_name f.function_name
is_alike likeness.NearName f = has_near_name f.module_name f.function_name
is_alike likeness.Module f = has_module f.module_name

-- a function that a step names, with the step's number
abbrev pub callee_in_step_seen : {A : Type 0} → CalleeInStep A → Mfa × ℕ
callee_in_step_seen w = (callee_seen w.callee, w.step)

-- a variable of a step, with the step's number
abbrev pub variable_in_step_seen : {A : Type 0} → VariableInStep A → Name × ℕ
variable_in_step_seen v = (v.variable.now, v.step)

-- the variables that the steps bind
abbrev pub targets_of_steps : List Step → List Name
targets_of_steps ss = flat_map target_names ss

-- the first variable of a step after these that isn't bound there, in a function with these parameters, and the number of the step
abbrev pub free_at_step : (params : List Name) → List Step → Step → Option (Name × ℕ)
free_at_step params before s = option_map (λ v. (v, length before + 1)) (first_free_in (bound_before params before) (terms_of s))

-- the variables that are bound where a term stands
abbrev pub names_bound_at : {A : Type 0} → TermSite A → List Name
names_bound_at (InStep params earlier) = bound_before params.now (map step_of earlier.now)
names_bound_at InArguments = []

-- a creation with this name in the role
abbrev pub creates_in_role : Role → Name → Command → Bool
creates_in_role Session n = creates_session n
creates_in_role Tracer n = gives_tracer n

-- what a creation after these commands names in the role, and the session that one of them creates so
abbrev pub holder_in_role : Role → List Command → Command → Option (Name × Name)
holder_in_role Session = session_holder
holder_in_role Tracer = tracer_holder

-- a name in the role, and the session that has it
abbrev pub created_name_seen : {A : Type 0} → CreatedName A → Name × Name
created_name_seen c = (c.name.now, c.session.now)
