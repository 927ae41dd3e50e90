use Rattle.std.proofs.Common.{map, subst, sym}
use Rattle.tn_script.specs.Views.{form_of}
use Rattle.tn_program.specs.Faults.{IsProgramOf}
use Rattle.complete_scripts.proofs.SamePrograms.{same_program}
use Rattle.complete_scripts.proofs.gather.program.Goals as goal

pub returns : goal.returns
returns g c =
    same_program {A = g.row.A.Denot} (map form_of c.args.one.items) _ _ c.program-first.ensures
    (subst (λ fs. IsProgramOf {A = g.row.A.Denot} fs c.program-second.result) (sym c.requires) c.program-second.ensures)
