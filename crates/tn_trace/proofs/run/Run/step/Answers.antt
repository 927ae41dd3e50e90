use Rattle.std.proofs.Common.{◌≡◌, ◌∙◌, length, refl, sym, ap, arith}
use Rattle.std.specs.Option.{option_map}
use Rattle.tn_flags.specs.Views.{command_of}
use Rattle.tn_program.specs.Views.{program_of}
use Rattle.tn_trace.proofs.RunSteps.{refused_step, idle_step, events_step, command_step, no_command_step}
use Rattle.tn_trace.proofs.run.Run.step.Goals as goal

pub returns-in-Idle-clause-taken : goal.returns-in-Idle-clause-taken
returns-in-Idle-clause-taken g c = λ limit picks run.
    let p = program_of c.args.program.now in
    let counted : c.len-count.result ≡ length c.args.self.now.journal.items = omega (arith, c.len-count.ensures, c.args.self.now.journal.ok.0) in
    idle_step g.O.Observer.sees p limit picks c.args.self.now run c.len-count.result counted g.O.Observer.adds c.args.pick c.if-count-self.false c.step.new.self c.in_ok-step.field-0 c.in_ok-step.ensures.moved c.args.out.now c.in-Idle.is

pub returns-in_err-see-in-Moved-clause-taken : goal.returns-in_err-see-in-Moved-clause-taken
returns-in_err-see-in-Moved-clause-taken g c = λ limit picks run.
    let p = program_of c.args.program.now in
    let counted : c.len-count.result ≡ length c.args.self.now.journal.items = omega (arith, c.len-count.ensures, c.args.self.now.journal.ok.0) in
    refused_step g.O.Observer.sees p limit picks c.args.self.now run c.len-count.result counted g.O.Observer.adds c.args.pick (record c.args.self.now { node = c.step.new.self; observer = c.see.new.self; journal = c.args.self.now.journal }) c.args.out.now c.see.new.out c.from_residual-in_err-see-in-Moved.result c.if-count-self.false c.from_residual-in_err-see-in-Moved.ensures.0

pub returns-in_err-push-in-Moved-clause-taken : goal.returns-in_err-push-in-Moved-clause-taken
returns-in_err-push-in-Moved-clause-taken g c = λ limit picks run.
    let p = program_of c.args.program.now in
    let counted : c.len-count.result ≡ length c.args.self.now.journal.items = omega (arith, c.len-count.ensures, c.args.self.now.journal.ok.0) in
    refused_step g.O.Observer.sees p limit picks c.args.self.now run c.len-count.result counted g.O.Observer.adds c.args.pick (record c.args.self.now { node = c.step.new.self; observer = c.see.new.self; journal = c.push-in-Moved.new.self }) c.args.out.now c.see.new.out c.from_residual-in_err-push-in-Moved.result c.if-count-self.false c.from_residual-in_err-push-in-Moved.ensures.0

pub returns-in_ok-push-in-Some-clause-taken : goal.returns-in_ok-push-in-Some-clause-taken
returns-in_ok-push-in-Some-clause-taken g c = λ limit picks run.
    let p = program_of c.args.program.now in
    let counted : c.len-count.result ≡ length c.args.self.now.journal.items = omega (arith, c.len-count.ensures, c.args.self.now.journal.ok.0) in
    command_step g.O.Observer.sees p limit picks c.args.self.now run c.len-count.result counted g.O.Observer.adds c.args.pick c.if-count-self.false c.step.new.self c.in_ok-step.field-0 c.in_ok-step.ensures.moved c.in-Control.number (command_of c.in-Some.command.now) (record c.args.self.now { node = c.step.new.self; observer = c.obey.new.self; journal = c.push.new.self }) c.args.out.now c.obey.new.out c.in-Control.is (sym c.command_at.ensures ∙ ap (option_map (λ k. command_of k.now)) c.in-Some.is)
    (λ next. c.in_ok-obey-in-Some.ensures.ok picks run.seen next) refl refl c.in_ok-push-in-Some.ensures.items

pub returns-in-None-clause-taken : goal.returns-in-None-clause-taken
returns-in-None-clause-taken g c = λ limit picks run.
    let p = program_of c.args.program.now in
    let counted : c.len-count.result ≡ length c.args.self.now.journal.items = omega (arith, c.len-count.ensures, c.args.self.now.journal.ok.0) in
    no_command_step g.O.Observer.sees p limit picks c.args.self.now run c.len-count.result counted g.O.Observer.adds c.args.pick c.if-count-self.false c.step.new.self c.in_ok-step.field-0 c.in_ok-step.ensures.moved c.in-Control.number c.in-Control.is (sym c.command_at.ensures ∙ ap (option_map (λ k. command_of k.now)) c.in-None.is)

pub returns-in_ok-push-in-Moved-clause-taken : goal.returns-in_ok-push-in-Moved-clause-taken
returns-in_ok-push-in-Moved-clause-taken g c = λ limit picks run.
    let p = program_of c.args.program.now in
    let counted : c.len-count.result ≡ length c.args.self.now.journal.items = omega (arith, c.len-count.ensures, c.args.self.now.journal.ok.0) in
    events_step g.O.Observer.sees p limit picks c.args.self.now run c.len-count.result counted g.O.Observer.adds c.args.pick c.if-count-self.false c.step.new.self c.in_ok-step.field-0 c.in_ok-step.ensures.moved c.in-Moved.events (record c.args.self.now { node = c.step.new.self; observer = c.see.new.self; journal = c.push-in-Moved.new.self }) c.args.out.now c.see.new.out c.in-Moved.is (λ next. c.in_ok-see-in-Moved.ensures.ok picks run.seen (c.look-sight.ensures p picks run.node) next) refl refl c.in_ok-push-in-Moved.ensures.items
