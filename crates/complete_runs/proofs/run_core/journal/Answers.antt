use Rattle.std.proofs.Common.{◌∙◌, sym, ap}
use Rattle.tn_trace.specs.Cores.{CoreValue}
use Rattle.complete_runs.proofs.SameSteps.{read_of, is_read}
use Rattle.complete_runs.proofs.run_core.journal.Goals as goal

pub returns : goal.returns
returns g c =
    is_read (λ v. v.now) c.args.one.now.journal (λ picks. picks) _ c.journal.ensures.journal c.journal.ensures.spent
    ∙ ap (λ (v : CoreValue). read_of v.journal (λ picks. picks)) c.requires
    ∙ sym (is_read (λ v. v.now) c.args.other.now.journal (λ picks. picks) _ c.journal-2.ensures.journal c.journal-2.ensures.spent)
