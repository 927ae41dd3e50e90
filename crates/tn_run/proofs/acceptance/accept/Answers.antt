use Rattle.std.proofs.Common.{sym, subst, Err}
use Rattle.tn_run.specs.Scripts.{IsAccepted}
use Rattle.tn_run.proofs.AcceptLemmas.{accepted, denied_by_rules}
use Rattle.tn_run.proofs.acceptance.accept.Goals as goal

pub returns-in-Ok-program : goal.returns-in-Ok-program
returns-in-Ok-program g c = accepted {A = g.row.A.Denot} c.args.bytes.now c.in-Ok.forms.items c.in-Ok.ensures c.in-Ok-program.program c.in-Ok-program.ensures

pub returns-in-Err-program : goal.returns-in-Err-program
returns-in-Err-program g c =
    subst (λ d. IsAccepted {A = g.row.A.Denot} c.args.bytes.now (Err d)) (sym c.denial_of_rules.ensures)
    (denied_by_rules {A = g.row.A.Denot} c.args.bytes.now c.in-Ok.forms.items c.in-Ok.ensures c.in-Err-program.fault c.in-Err-program.ensures)
