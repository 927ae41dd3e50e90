-- What the code's program stands for.
use Rattle.std.specs.Prelude.{map}
use Rattle.std.specs.Arc.{arc_value}
use Rattle.def_script.specs.Program as program
use Rattle.tn_flags.specs.Views.{command_of}
use Rattle.tn_script.specs.Views.{functions_of, entry_of}
use Rattle.tn_program.specs.declared.parts.Program.{Program}

abbrev pub program_of : {A : Type 0} → Program A → program.Program
program_of p = record { functions = functions_of (arc_value p.functions).items; entries = map entry_of p.entries.items; commands = map command_of p.commands.items }
