use Rattle.std.proofs.lemmas.Result.{IfOk-weaker}
use Rattle.tn_spec.specs.Wholes.{spec_seen}
use Rattle.tn_term.specs.Views.{tree_of}
use Rattle.tn_fun_text.specs.FunsOfSpecs.{IsFunOfAnyTerm, IsFunOfTerm}
use Rattle.tn_fun_text.proofs.SpecTerms.{of_spec}
use Rattle.tn_fun_text.proofs.funs_of_specs.fun_of_any_term.Goals as goal

pub returns-in-Ok : goal.returns-in-Ok
returns-in-Ok g c =
    let d = c.args.dialect in
    let t = tree_of c.args.term.now in
    IfOk-weaker c.fun_of_term.result (IsFunOfTerm d t) (IsFunOfAnyTerm d t)
    (λ a is. of_spec d t (spec_seen c.in-Ok._spec, c.in-Ok.ensures.read) a is) c.fun_of_term.ensures
