-- What a form adds to the parts of a program.
use Rattle.std.specs.Prelude.{◌≡◌, ◌++◌, List, map}
use Rattle.def_script.specs.Rules.{function_of_form, entry_of_form, commands_of_form}
use Rattle.tn_flags.specs.Views.{command_of}
use Rattle.tn_flags.specs.declared.command.Command.{Command}
use Rattle.tn_script.specs.Views.{function_of, entry_of, form_of}
use Rattle.tn_script.specs.declared.form.Function.{Function}
use Rattle.tn_script.specs.declared.form.Entry.{Entry}
use Rattle.tn_script.specs.declared.form.Form.{Form}

-- the form's function, if it declares one
abbrev pub GainsFunction : {A : Type 0} → List (Function A) → List (Function A) → Form A → Type 0
GainsFunction old new f = map function_of new ≡ map function_of old ++ function_of_form (form_of f)

-- the form's process, if it starts one
abbrev pub GainsEntry : {A : Type 0} → List (Entry A) → List (Entry A) → Form A → Type 0
GainsEntry old new f = map entry_of new ≡ map entry_of old ++ entry_of_form (form_of f)

-- the form's commands
abbrev pub GainsCommands : {A : Type 0} → List (Command A) → List (Command A) → Form A → Type 0
GainsCommands old new f = map command_of new ≡ map command_of old ++ commands_of_form (form_of f)
