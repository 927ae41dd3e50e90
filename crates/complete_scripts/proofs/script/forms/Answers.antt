use Rattle.std.proofs.Common.{subst, sym}
use Rattle.tn_script.specs.Answers.{AreForms}
use Rattle.complete_scripts.proofs.SameForms.{same_forms}
use Rattle.complete_scripts.proofs.script.forms.Goals as goal

pub returns : goal.returns
returns g c =
    same_forms {A = g.row.A.Denot} c.args.one.now _ _ c.forms-first.ensures
    (subst (λ bytes. AreForms {A = g.row.A.Denot} bytes c.forms-second.result) (sym c.requires) c.forms-second.ensures)
