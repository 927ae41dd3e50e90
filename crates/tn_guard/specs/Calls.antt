-- What the code's functions of values come to, in the definitions' words.
use Rattle.std.specs.Prelude.{[], ◌∷◌, Option}
use Rattle.def_term.specs.Tree.{Tree}
use Rattle.def_spec.specs.Functions.{of_integers}
use Rattle.tn_spec.specs.Views.{func_of}
use Rattle.tn_spec.specs.declared.func.Func.{Func}
use Rattle.tn_guard.specs.Functions.{of_one_or_two, of_two_integers}
use Rattle.tn_guard.specs.Views.{shape_seen}
use Rattle.tn_guard.specs.declared.shape.Shape.{Shape}

-- of two values that are to be integers
abbrev pub integers_value : {A : Type 0} → Func → Shape A → Shape A → Option Tree
integers_value f one other = of_integers (of_two_integers (func_of f)) (shape_seen one) (shape_seen other)

-- of two values
abbrev pub two_value : {A : Type 0} → Func → Shape A → Shape A → Option Tree
two_value f one other = of_one_or_two (func_of f) (shape_seen one ∷ shape_seen other ∷ [])
