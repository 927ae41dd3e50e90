use Rattle.std.proofs.Common.{[], min}
use Rattle.tn_program.specs.Views.{program_of}
use Rattle.tn_trace.specs.Runs.{IsRun}
use Rattle.complete_runs.specs.ObservedRuns.{AreRuns}
use Rattle.complete_runs.proofs.Both.{both_if_ok}
use Rattle.complete_runs.proofs.run.new.Goals as goal

pub returns : goal.returns
returns g c =
    let p = program_of c.args.program.now in
    both_if_ok (λ r. g.O.Observer.sees c.args.one p [] → IsRun g.O.Observer.sees p (min c.args.limit 65536) [] r) (λ r. g.O.Observer.sees c.args.other p [] → IsRun g.O.Observer.sees p (min c.args.limit 65536) [] r)
    (AreRuns g.O.Observer.sees p (min c.args.limit 65536) []) (λ r q h i. record { first = h c.requires.one; second = i c.requires.other }) _ _ c.new-first.ensures.start c.new-second.ensures.start
