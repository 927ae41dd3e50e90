use Rattle.std.proofs.Common.{◌∙◌, sym}
use Rattle.std.proofs.lemmas.Bool.{iff_false}
use Rattle.tn_program.specs.Views.{program_of}
use Rattle.tn_trace.proofs.Within.{one_within, one_too_much}
use Rattle.tn_trace.proofs.run.Run.step_within.Goals as goal

pub returns-then-is_exceeded-clause-taken : goal.returns-then-is_exceeded-clause-taken
returns-then-is_exceeded-clause-taken g c = λ limit before run few.
    one_too_much g.O.Observer.sees g.O.Observer.adds (g.B.Bound.exceeds c.args.bound.now) (program_of c.args.program.now) limit before c.args.pick c.args.self.now c.step.new.self c.args.out.now c.step.new.out c.in_ok-step.field-0
    (λ js h. c.in_ok-step.ensures.taken limit js h) run (c.is_exceeded.ensures.0 c.if-is_exceeded.true)

pub returns-else-is_exceeded-clause-taken : goal.returns-else-is_exceeded-clause-taken
returns-else-is_exceeded-clause-taken g c = λ limit before run few.
    one_within g.O.Observer.sees g.O.Observer.adds (g.B.Bound.exceeds c.args.bound.now) (program_of c.args.program.now) limit before c.args.pick c.args.self.now c.step.new.self c.args.out.now c.step.new.out c.in_ok-step.field-0
    (λ js h. c.in_ok-step.ensures.taken limit js h) run (λ moved. iff_false c.is_exceeded.ensures c.if-is_exceeded.false) few

pub returns-in-Idle-clause-taken : goal.returns-in-Idle-clause-taken
returns-in-Idle-clause-taken g c = λ limit before run few.
    one_within g.O.Observer.sees g.O.Observer.adds (g.B.Bound.exceeds c.args.bound.now) (program_of c.args.program.now) limit before c.args.pick c.args.self.now c.step.new.self c.args.out.now c.step.new.out c.in_ok-step.field-0
    (λ js h. c.in_ok-step.ensures.taken limit js h) run (λ moved. absurd (cc (sym c.in-Idle.is ∙ moved))) few

pub returns-in-Full-clause-taken : goal.returns-in-Full-clause-taken
returns-in-Full-clause-taken g c = λ limit before run few.
    one_within g.O.Observer.sees g.O.Observer.adds (g.B.Bound.exceeds c.args.bound.now) (program_of c.args.program.now) limit before c.args.pick c.args.self.now c.step.new.self c.args.out.now c.step.new.out c.in_ok-step.field-0
    (λ js h. c.in_ok-step.ensures.taken limit js h) run (λ moved. absurd (cc (sym c.in-Full.is ∙ moved))) few
