-- Commands, given those before them.
use Rattle.std.specs.Prelude.{◌≡◌, ℕ, ◌-◌, ◌^◌, min, Bool, List, ◌++◌, map, length}
use Rattle.std.specs.List.{list_any, count_by}
use Rattle.def_term.specs.Names.{Name}
use Rattle.def_script.specs.Program as program
use Rattle.def_script.specs.Rules.{creates_session, gives_tracer, commands_of, creates_again, commands_unmade, takes_tracer, is_creation, holds_past}
use Rattle.def_script.specs.Limits.{COMMANDS, SESSIONS}
use Rattle.def_refusal.specs.Items.{is_past}
use Rattle.tn_flags.specs.Views.{command_of}
use Rattle.tn_flags.specs.declared.command.Command.{Command}
use Rattle.tn_script.specs.Views.{form_of}
use Rattle.tn_script.specs.declared.form.Form.{Form}
use Rattle.tn_program.specs.declared.session_rules.NameOf.{NameOf}
use Rattle.tn_program.specs.declared.session_rules.NameOf.TheVariants.{Session, Tracer}
use Rattle.tn_program.specs.declared.session_rules.CommandRule.{CommandRule}
use Rattle.tn_program.specs.declared.session_rules.CommandRule.TheVariants.{Again, Unmade, TracerTaken, Late}

-- the commands that the forms hold
abbrev pub form_commands : {A : Type 0} → List (Form A) → List program.Command
form_commands fs = commands_of (map form_of fs)

-- those, and then these
abbrev pub commands_before : {A : Type 0} → List (Form A) → List (Command A) → List program.Command
commands_before fs cs = form_commands fs ++ map command_of cs

-- a creation with this name as its session or its tracer
abbrev pub creates_with : NameOf → Name → program.Command → Bool
creates_with Session n = creates_session n
creates_with Tracer n = gives_tracer n

-- one of the commands is such a creation
abbrev pub any_creates : NameOf → Name → List program.Command → Bool
any_creates of n cs = list_any (creates_with of n) cs

-- the command breaks the rule, given those before it
abbrev pub command_breaks : CommandRule → List program.Command → program.Command → Bool
command_breaks Again = creates_again
command_breaks Unmade = commands_unmade
command_breaks TracerTaken = takes_tracer
command_breaks Late = is_past

-- how many of the commands are creations
abbrev pub creation_count : List program.Command → ℕ
creation_count cs = count_by is_creation cs

-- how many creations the forms hold
abbrev pub creations_in : {A : Type 0} → List (Form A) → ℕ
creations_in fs = creation_count (form_commands fs)

-- the total is this number, or the greatest that a total can be where the number is larger
abbrev pub Counts : ℕ → ℕ → Type 0
Counts total n = total ≡ min n (2 ^ 64 - 1)

-- one of the commands, which follow those of the forms, is past the greatest number of commands
abbrev pub passes_commands : {A B : Type 0} → List (Form A) → List (Command B) → Bool
passes_commands fs cs = holds_past COMMANDS (length (form_commands fs)) (length (map command_of cs))

-- one is a creation past the greatest number of sessions
abbrev pub passes_sessions : {A B : Type 0} → List (Form A) → List (Command B) → Bool
passes_sessions fs cs = holds_past SESSIONS (creations_in fs) (creation_count (map command_of cs))
