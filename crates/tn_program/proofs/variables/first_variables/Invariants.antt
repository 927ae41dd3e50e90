use Rattle.std.proofs.Common.{◌∷◌, take}
use Rattle.def_script.specs.Shapes.{self_name}
use Rattle.tn_program.specs.Variables.{names_in, HaveSame}
use Rattle.tn_program.proofs.variables.first_variables.Given as goal

abbrev pub invariant-loop-param : goal.invariant-loop-param
invariant-loop-param g l = HaveSame (names_in l.bound) (self_name ∷ take l.param-index l.param-items)
