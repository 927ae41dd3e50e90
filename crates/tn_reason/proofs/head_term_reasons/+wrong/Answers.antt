use Rattle.std.proofs.Common.{◌∙◌, refl, arith}
use Rattle.def_explain.specs.SpecReasons.{first_reason, atoms_in, atoms_in_each, wrong_variable}
use Rattle.tn_term.specs.Views.{trees_of}
use Rattle.tn_reason.proofs.SpecReasons.{first_here, first_later}
use Rattle.tn_reason.proofs.head_term_reasons.+wrong.Goals as goal

pub wrong_variable_in_each-returns-in-Some : goal.wrong_variable_in_each-returns-in-Some
wrong_variable_in_each-returns-in-Some g t c =
    let size = c.len-i-end.ensures ∙ c.args.terms.now.ok.0 in
    first_here wrong_variable atoms_in atoms_in_each (λ t ts. refl) c.args.terms.now.items c.loop-i.i (first_reason wrong_variable (atoms_in_each (trees_of c.args.terms.now.items)))
    c.index.result.now c.in-Some.name.now (omega (arith, size)) c.index.ensures c.in-Some.ensures c.loop-i.invariant

pub wrong_variable_in_each-loop-i-preserved : goal.wrong_variable_in_each-loop-i-preserved
wrong_variable_in_each-loop-i-preserved g t c =
    let size = c.len-i-end.ensures ∙ c.args.terms.now.ok.0 in
    first_later wrong_variable atoms_in atoms_in_each (λ t ts. refl) c.args.terms.now.items c.loop-i.i (first_reason wrong_variable (atoms_in_each (trees_of c.args.terms.now.items)))
    c.index.result.now (omega (arith, size)) c.index.ensures c.in_default.ensures c.loop-i.invariant
