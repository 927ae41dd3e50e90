use Rattle.std.proofs.Common.{◌∙◌, sym, ap}
use Rattle.tn_trace.specs.Cores.{CoreValue}
use Rattle.tn_live.proofs.record.Record.is_of.Goals as goal

pub returns : goal.returns
returns g c =
    let e = c.program.ensures ∙ ap (λ (v : CoreValue). v.program) c.requires.core in
    (λ t. sym (c.same.ensures.0 t) ∙ e, λ h. c.same.ensures.1 (e ∙ sym h))
