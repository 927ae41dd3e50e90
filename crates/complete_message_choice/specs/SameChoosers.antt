-- Two rows of sessions of the code that stand for one.
use Rattle.std.specs.Prelude.{◌≡◌, List}
use Rattle.def_script.specs.Exports.{Exports, visible}
use Rattle.def_run.specs.History.{NamedSession}
use Rattle.tn_script.specs.Views.{functions_of}
use Rattle.tn_script.specs.declared.form.Function.{Function}
use Rattle.tn_message_choice.specs.Choosers.{AreChoosers}
use Rattle.tn_message_choice.specs.declared.choosers.Choosers.{Choosers}

-- both are those of the definitions, over the functions of one program
pub record ChooseAlike {A : Type 0} (one other : Choosers A) : Type 0 where
  pub exports : Exports
  pub sessions : List NamedSession
  pub one_is : AreChoosers exports sessions one
  pub other_is : AreChoosers exports sessions other

-- the same over these functions
pub record ChooseAlikeOver {A : Type 0} (functions : List (Function A)) (one other : Choosers A) : Type 0 where
  pub exports : Exports
  pub sessions : List NamedSession
  pub are_functions : exports.functions ≡ visible (functions_of functions)
  pub one_is : AreChoosers exports sessions one
  pub other_is : AreChoosers exports sessions other
