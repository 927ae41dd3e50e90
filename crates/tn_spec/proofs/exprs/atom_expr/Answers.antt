use Rattle.std.proofs.Common.{◌∙◌, subst, ap}
use Rattle.def_spec.specs.Reading.{atom_kind, atom_expr_of_kind}
use Rattle.tn_spec.specs.Answers.{IsRead}
use Rattle.tn_spec.specs.Readings.{head_in}
use Rattle.tn_spec.specs.Views.{expr_seen}
use Rattle.tn_spec.proofs.exprs.atom_expr.Goals as goal

pub returns : goal.returns
returns g c =
    subst (λ k. IsRead expr_seen (atom_expr_of_kind (head_in c.args.head.now) c.args.name.now k) c.plain_expr.result) (c.in-Plain.ensures.seen ∙ ap atom_kind c.text.ensures.text) (c.plain_expr.ensures (head_in c.args.head.now))
