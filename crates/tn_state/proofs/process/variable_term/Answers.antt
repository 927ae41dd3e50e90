use Rattle.std.proofs.Common.{◌∙◌, ap}
use Rattle.std.proofs.lemmas.Result.{IfOk-weaker}
use Rattle.def_state.specs.Lines.{pair_term}
use Rattle.def_term.specs.Tree.{atom}
use Rattle.tn_process.specs.Views.{name_and_term}
use Rattle.tn_term.proofs.Views.{tree_of_atom}
use Rattle.tn_term.specs.Views.{tree_of}
use Rattle.tn_state.proofs.process.variable_term.Goals as goal

pub returns : goal.returns
returns g c =
    let e = name_and_term c.args.variable.now in
    IfOk-weaker c.tuple_of_two.result _ _
    (λ t is. is
    ∙ ap (λ s. pair_term s (tree_of c.in_ok-value.value)) (tree_of_atom g.row.A.Denot c.in_ok-name.name)
    ∙ ap (λ n. pair_term (atom n) (tree_of c.in_ok-value.value)) (c.in_ok-name.ensures ∙ c.name.ensures)
    ∙ ap (pair_term (atom e.0)) (c.in_ok-value.ensures ∙ c.value.ensures))
    c.tuple_of_two.ensures
