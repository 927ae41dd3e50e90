use Rattle.std.proofs.Common.{◌≡◌, drop}
use Rattle.def_explain.specs.SpecReasons.{first_reason, atoms_in_each, wrong_variable}
use Rattle.tn_term.specs.Views.{trees_of}
use Rattle.tn_reason.proofs.head_term_reasons.+wrong.Given as goal

abbrev pub invariant-wrong_variable_in_each-loop-i : goal.invariant-wrong_variable_in_each-loop-i
invariant-wrong_variable_in_each-loop-i g l =
    first_reason wrong_variable (atoms_in_each (trees_of (drop l.i l.terms.items))) ≡ first_reason wrong_variable (atoms_in_each (trees_of l.terms.items))
