-- Conditions and bodies, and the values that are bound.
use Rattle.std.specs.Prelude.{Option}
use Rattle.def_term.specs.Tree.{Tree, list, of_elements}
use Rattle.def_spec.specs.Expressions as ex
use Rattle.def_spec.specs.Matching.{Bindings}
use Rattle.tn_action.specs.declared.eval_context.Position.{Position}
use Rattle.tn_action.specs.declared.eval_context.Position.TheVariants.{Condition, Body}

abbrev pub eval_position_seen : Position → ex.Position
eval_position_seen Condition = ex.in_condition
eval_position_seen Body = ex.in_body

-- the value of a call in that part
abbrev pub settled_in : Position → Option Tree → Option Tree
settled_in part r = ex.settle (eval_position_seen part) r

-- the list of the values that are bound
abbrev pub list_bound : Bindings → Tree
list_bound b = list (of_elements (ex.values_bound b))
