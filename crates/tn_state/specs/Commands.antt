-- The commands to one session.
use Rattle.std.specs.Prelude.{Bool, false, List, filter, map}
use Rattle.std.specs.Str.{bytes_eq}
use Rattle.def_term.specs.Names.{Name}
use Rattle.def_script.specs.Program as program
use Rattle.def_script.specs.Program.{create, session_of}
use Rattle.tn_flags.specs.Views.{command_of}
use Rattle.tn_flags.specs.declared.command.Command.{Command}

-- the command is to the session of this name
abbrev pub is_command_to : Name → program.Command → Bool
is_command_to name c = bytes_eq name (session_of c)

-- those of these commands that are
abbrev pub own_commands : {A : Type 0} → Name → List (Command A) → List program.Command
own_commands name cs = filter (is_command_to name) (map command_of cs)

-- the command creates the session of this name
abbrev pub creates : Name → program.Command → Bool
creates name (create s tracer) = bytes_eq name s
creates name c = false
