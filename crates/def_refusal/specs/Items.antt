-- Which step of a function form, or which command of a control form, a script is refused for (own).
-- Depends on the shapes of forms and on their rules.
use Rattle.std.specs.Prelude.{ℕ, suc, ◌+◌, ◌-◌, ◌^◌, min, nat_le, Bool, false, ◌&&◌, ◌||◌, not, List, [], ◌∷◌, ◌++◌, length, take, drop, Option, Some, None, if◌then◌else◌}
use Rattle.std.specs.List.{count_by}
use Rattle.std.specs.Option.{option_map}
use Rattle.def_term.specs.Tree.{Tree}
use Rattle.def_script.specs.Limits.{STEPS, COMMANDS, SESSIONS}
use Rattle.def_script.specs.Program.{Step, Function, Command, Form, declares, starts, controls}
use Rattle.def_script.specs.Shapes.{and_then, both, all_four, name_in, exported_in, params_in, function_from, list_in, tuple_in, is_tagged, step_in, command_in}
use Rattle.def_script.specs.Rules.{Rule, duplicate, undeclared, not_exported, unbound, tracer_taken, wrong_arity, past_limit, on_some, is_declared_at_all, is_internal, is_misnamed, named_by, named_with_module, bound_before, terms_of, any_has_other, commands_of, creates_again, commands_unmade, takes_tracer, is_creation}

-- a step or a command of a form by its position there, counted from 1; of a command that breaks a rule also the number in the control list
pub data FormItem : Type 0 where
  step : (position : ℕ) → FormItem
  command : (position : ℕ) → FormItem
  numbered_command : (position number : ℕ) → FormItem

-- ---- the first that breaks a rule

-- the position of the first element that passes, given those before it, where the first of the list has this position
abbrev pub position_with_earlier : {X : Type 0} → (List X → X → Bool) → List X → ℕ → List X → Option ℕ
position_with_earlier p earlier n [] = None
position_with_earlier p earlier n (x ∷ xs) = if p earlier x then Some n else position_with_earlier p (earlier ++ x ∷ []) (suc n) xs

-- a step of the function, after these, breaks the rule
abbrev pub breaks_by_step : List Form → Function → Rule → List Step → Step → Bool
breaks_by_step fs k duplicate = λ before s. false
breaks_by_step fs k undeclared = λ before s. on_some (λ f. not (is_declared_at_all fs f)) (named_by k.module_name s)
breaks_by_step fs k not_exported = λ before s. on_some (is_internal fs) (named_with_module s)
breaks_by_step fs k unbound = λ before s. any_has_other (bound_before k.params before) (terms_of s)
breaks_by_step fs k tracer_taken = λ before s. false
breaks_by_step fs k wrong_arity = λ before s. on_some (is_misnamed fs) (named_by k.module_name s)
breaks_by_step fs k past_limit = λ before s. nat_le STEPS (length before)

-- a command of the control list, after these, is past a limit
abbrev pub is_past : List Command → Command → Bool
is_past before c = nat_le COMMANDS (length before) || (is_creation c && nat_le SESSIONS (count_by is_creation before))

-- a command of the control list, after these, breaks the rule
abbrev pub breaks_by_command : Rule → List Command → Command → Bool
breaks_by_command duplicate = creates_again
breaks_by_command undeclared = commands_unmade
breaks_by_command not_exported = λ before c. false
breaks_by_command unbound = λ before c. false
breaks_by_command tracer_taken = takes_tracer
breaks_by_command wrong_arity = λ before c. false
breaks_by_command past_limit = is_past

-- a command at this position of its form, after so many in earlier forms; 2 ^ 64 - 1 stands for any larger number, which no script's refusal has
abbrev pub command_at : ℕ → ℕ → FormItem
command_at before n = numbered_command n (min (before + n) (2 ^ 64 - 1))

-- the step or the command of the form for which it breaks the rule; none where the form itself breaks it
abbrev pub breaking_item : List Form → List Form → Form → Rule → Option FormItem
breaking_item fs earlier (declares k) r = option_map step (position_with_earlier (breaks_by_step fs k r) [] 1 k.steps)
breaking_item fs earlier (starts e) r = None
breaking_item fs earlier (controls cs) r = option_map (command_at (length (commands_of earlier))) (position_with_earlier (breaks_by_command r) (commands_of earlier) 1 cs)

-- of the first of these forms, if there is one
abbrev pub breaking_item_first : List Form → List Form → List Form → Rule → Option FormItem
breaking_item_first fs earlier [] r = None
breaking_item_first fs earlier (f ∷ later) r = breaking_item fs earlier f r

-- of form n, counted from 1
abbrev pub breaking_item_in : List Form → ℕ → Rule → Option FormItem
breaking_item_in fs n r = breaking_item_first fs (take (n - 1) fs) (drop (n - 1) fs) r

-- ---- the first that has no shape

-- this position, or that of a later one
abbrev pub or_position : {X : Type 0} → ℕ → Option X → Option ℕ → Option ℕ
or_position n None later = Some n
or_position n (Some x) later = later

-- the position of the first term that isn't read, where the first of the list has this position
abbrev pub position_without_shape : {X : Type 0} → (Tree → Option X) → ℕ → List Tree → Option ℕ
position_without_shape f n [] = None
position_without_shape f n (t ∷ ts) = or_position n (f t) (position_without_shape f (suc n) ts)

-- the terms that are to be steps, where all else of {function,M,F,Vis,Params,Steps} has its shape
abbrev pub terms_as_steps : List Tree → Option (List Tree)
terms_as_steps (tag ∷ m ∷ f ∷ vis ∷ params ∷ steps ∷ []) =
    both (λ make ts. ts) (all_four function_from (name_in m) (name_in f) (exported_in vis) (params_in params)) (list_in steps)
terms_as_steps ts = None

-- the terms that are to be commands of {control,Commands}
abbrev pub terms_as_commands : List Tree → Option (List Tree)
terms_as_commands (tag ∷ commands ∷ []) = list_in commands
terms_as_commands ts = None

-- the step or the command without a shape, by the first element of the form
abbrev pub shapeless_item_of : List Tree → Option FormItem
shapeless_item_of ts =
    if is_tagged "function" ts then option_map step (and_then (terms_as_steps ts) (position_without_shape step_in 1)) else
    if is_tagged "control" ts then option_map command (and_then (terms_as_commands ts) (position_without_shape command_in 1)) else
    None

-- the step or the command for which the term has no shape; none where something else of it has none
abbrev pub shapeless_item : Tree → Option FormItem
shapeless_item t = and_then (tuple_in t) shapeless_item_of

-- of the first of these terms, if there is one
abbrev pub shapeless_item_first : List Tree → Option FormItem
shapeless_item_first [] = None
shapeless_item_first (t ∷ later) = shapeless_item t

-- of term n, counted from 1
abbrev pub shapeless_item_in : List Tree → ℕ → Option FormItem
shapeless_item_in ts n = shapeless_item_first (drop (n - 1) ts)
