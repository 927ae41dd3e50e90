-- The functions of a program, as their list.
use Rattle.std.specs.Prelude.{List}
use Rattle.std.specs.Arc.{arc_value}
use Rattle.def_script.specs.Program.{Function}
use Rattle.tn_script.specs.Views.{functions_of}
use Rattle.tn_process.specs.declared.functions.Functions.{Functions}

abbrev pub functions_in : {A : Type 0} → Functions A → List Function
functions_in f = functions_of (arc_value f.list).items
