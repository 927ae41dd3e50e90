-- Two comparisons of the code that stand for one.
use Rattle.std.specs.Prelude.{◌≡◌, List}
use Rattle.def_script.specs.Exports.{Exports, visible}
use Rattle.def_running_node.specs.NodeComparisons as definition
use Rattle.tn_script.specs.Views.{functions_of}
use Rattle.tn_script.specs.declared.form.Function.{Function}
use Rattle.tn_running_node.specs.Comparisons.{IsComparison}
use Rattle.tn_running_node.specs.declared.comparison.Comparison.{Comparison}

-- both are one of the definitions, over the functions of one program
pub record StandForOne {A : Type 0} (one other : Comparison A) : Type 0 where
  pub exports : Exports
  pub compared : definition.Comparison
  pub one_is : IsComparison exports compared one
  pub other_is : IsComparison exports compared other

-- the same over these functions
pub record StandForOneOver {A : Type 0} (functions : List (Function A)) (one other : Comparison A) : Type 0 where
  pub exports : Exports
  pub compared : definition.Comparison
  pub are_functions : exports.functions ≡ visible (functions_of functions)
  pub one_is : IsComparison exports compared one
  pub other_is : IsComparison exports compared other
