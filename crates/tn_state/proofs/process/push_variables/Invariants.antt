use Rattle.std.proofs.Common.{◌≡◌, ◌++◌, map, drop}
use Rattle.def_state.specs.ProcessTexts.{binding_term}
use Rattle.tn_process.specs.Views.{name_and_term}
use Rattle.tn_term.specs.Views.{tree_of}
use Rattle.tn_state.proofs.process.push_variables.Given as goal

abbrev pub invariant-loop-variable : goal.invariant-loop-variable
invariant-loop-variable g l =
    map tree_of l.terms.items ++ map binding_term (map name_and_term (drop l.variable-index l.variables)) ≡ map tree_of l.fn.terms.items ++ map binding_term (map name_and_term l.variables)
