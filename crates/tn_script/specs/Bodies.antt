-- What the code's parameters and steps of a function stand for.
use Rattle.std.specs.Prelude.{List, map}
use Rattle.std.specs.declared.vec.Vec.{Vec}
use Rattle.def_term.specs.Names.{Name}
use Rattle.def_script.specs.Program as program
use Rattle.tn_script.specs.declared.form.Step.{Step}
use Rattle.tn_script.specs.Views.{step_of}

-- the parameters and the steps of a function
abbrev pub body_of : {A : Type 0} → Vec Name A × Vec (Step A) A → List Name × List program.Step
body_of body = (body.0.items, map step_of body.1.items)
