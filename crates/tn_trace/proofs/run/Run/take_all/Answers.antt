use Rattle.std.proofs.Common.{Ok}
use Rattle.tn_program.specs.Views.{program_of}
use Rattle.tn_trace.proofs.Within.{unbounded_follow, unbounded_add}
use Rattle.tn_trace.proofs.run.Run.take_all.Goals as goal

pub returns-clause-follows : goal.returns-clause-follows
returns-clause-follows g c = λ limit before run.
    unbounded_follow g.O.Observer.sees g.O.Observer.adds (λ o. ⊥) (program_of c.args.program.now) limit (λ o h. h) before c.args.picks.now c.args.self.now c.take_within.new.self c.args.out.now c.take_within.new.out (Ok c.in_ok-take_within.field-0)
    (c.in_ok-take_within.ensures.taken limit before run (λ h. h))

pub returns-clause-adds : goal.returns-clause-adds
returns-clause-adds g c = λ limit before run.
    unbounded_add g.O.Observer.sees g.O.Observer.adds (λ o. ⊥) (program_of c.args.program.now) limit (λ o h. h) before c.args.picks.now c.args.self.now c.take_within.new.self c.args.out.now c.take_within.new.out (Ok c.in_ok-take_within.field-0)
    (c.in_ok-take_within.ensures.taken limit before run (λ h. h))
