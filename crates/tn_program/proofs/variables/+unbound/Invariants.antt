use Rattle.std.proofs.Common.{◌≡◌, drop}
use Rattle.def_script.specs.Rules.{have_other_variable}
use Rattle.tn_term.specs.Views.{trees_of}
use Rattle.tn_program.specs.Variables.{names_in}
use Rattle.tn_program.proofs.variables.+unbound.Given as goal

abbrev pub invariant-any_unbound-loop-term : goal.invariant-any_unbound-loop-term
invariant-any_unbound-loop-term g l = have_other_variable (names_in l.fn.bound) (trees_of l.fn.terms.items) ≡ have_other_variable (names_in l.fn.bound) (trees_of (drop l.term-index l.term-items))
