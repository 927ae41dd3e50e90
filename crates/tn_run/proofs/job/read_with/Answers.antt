use Rattle.std.proofs.Common.{subst, rules, ◌≤◌, length}
use Rattle.tn_run.specs.Jobs.{IsReadingOf}
use Rattle.std.proofs.Common.{IfOk}
use Rattle.tn_run.proofs.ReadLemmas.{read_whole}
use Rattle.tn_run.proofs.job.read_with.Goals as goal

pub returns : goal.returns
returns g c =
    let short : length c.in-Ok.text.items ≤ 1048576 = search rules in
    read_whole (g.J.Job.view c.args.job.now) (g.J.Job.takes c.args.job.now) g.R.Read.remaining c.args.reader.now c.read_text.new.reader c.in-Ok.text.items c.accept_text.result
    c.in-Ok.ensures.text c.in-Ok.ensures.unfailed c.read_text.ensures.front c.requires.reads short
    (subst (λ t. IfOk c.accept_text.result (IsReadingOf (g.J.Job.view c.args.job.now) (g.J.Job.takes c.args.job.now) t)) c.deref-2.ensures.value c.accept_text.ensures.given) c.accept_text.ensures.fault
