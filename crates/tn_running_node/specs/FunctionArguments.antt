-- Arguments of a function command that a running node takes, and the model doesn't.
use Rattle.std.specs.Prelude.{◌≡◌, Bool, Option, Some, None}
use Rattle.def_script.specs.Program.{Command}
use Rattle.def_term.specs.Tree.{Tree}
use Rattle.def_running_node.specs.NodeReplies.{option_term, options_once, command_once}
use Rattle.tn_flags.specs.Views.{command_of}
use Rattle.tn_flags.specs.declared.command.Command as commands

-- the options are read as the one that this says, or as they are
abbrev pub IsOptionOnce : Tree → Option Bool → Type 0
IsOptionOnce t None = options_once t ≡ t
IsOptionOnce t (Some local) = options_once t ≡ option_term local

-- the command is read as this one, or as it is
abbrev pub IsCommandOnce : {A : Type 0} → Command → Option (commands.Command A) → Type 0
IsCommandOnce c None = command_once c ≡ c
IsCommandOnce c (Some k) = command_once c ≡ command_of k
