use Rattle.tn_trace.proofs.CoreLemmas.{steps_on, runs_on, full_on, full_run, never_on, refused_on}
use Rattle.tn_trace.proofs.run_core.Core.step.Goals as goal

pub invariant_of-self-in-Ok : goal.invariant_of-self-in-Ok
invariant_of-self-in-Ok g c = runs_on c.self.inside.program c.self.inside.run c.in-Some.run' c.advance.new.run c.args.self.now c.self.view_is c.self.invariant c.in-Some.is c.args.pick c.in-Ok.answer c.in-Ok.ensures

pub invariant_of-self-in-Err-LimitReached : goal.invariant_of-self-in-Err-LimitReached
invariant_of-self-in-Err-LimitReached g c = full_run c.self.inside.program c.self.inside.run c.in-Some.run' c.advance.new.run c.args.self.now c.self.view_is c.self.invariant c.in-Some.is c.args.pick (λ picks run. rw c.in-Err-LimitReached.field-0-is at (c.in-Err-LimitReached.ensures picks run))

pub invariant_of-self-in-Err-Spent : goal.invariant_of-self-in-Err-Spent
invariant_of-self-in-Err-Spent g c = never_on c.self.inside.program c.self.inside.run c.in-Some.run' c.advance.new.run c.args.self.now c.self.view_is c.self.invariant c.in-Some.is c.args.pick (λ picks run. rw c.in-Err-Spent.field-0-is at (c.in-Err-Spent.ensures picks run))

pub returns-in-Ok-clause-step : goal.returns-in-Ok-clause-step
returns-in-Ok-clause-step g c = steps_on c.self.inside.program c.self.inside.run c.in-Some.run' c.advance.new.run c.args.self.now c.self.view_is c.self.invariant c.in-Some.is c.args.pick c.in-Ok.answer c.in-Ok.ensures

pub returns-in-Err-OutOfMemory-clause-step : goal.returns-in-Err-OutOfMemory-clause-step
returns-in-Err-OutOfMemory-clause-step g c = refused_on c.self.inside.program c.self.inside.run c.in-Some.run' c.advance.new.run c.args.self.now c.self.view_is c.self.invariant c.in-Some.is c.args.pick (λ picks run. rw c.in-Err-OutOfMemory.field-0-is at (c.in-Err-OutOfMemory.ensures picks run))

pub returns-in-Err-LimitReached-clause-step : goal.returns-in-Err-LimitReached-clause-step
returns-in-Err-LimitReached-clause-step g c = full_on c.self.inside.program c.self.inside.run c.in-Some.run' c.advance.new.run c.args.self.now c.self.view_is c.self.invariant c.in-Some.is c.args.pick (λ picks run. rw c.in-Err-LimitReached.field-0-is at (c.in-Err-LimitReached.ensures picks run))

pub returns-in-Err-Spent-clause-step : goal.returns-in-Err-Spent-clause-step
returns-in-Err-Spent-clause-step g c = never_on c.self.inside.program c.self.inside.run c.in-Some.run' c.advance.new.run c.args.self.now c.self.view_is c.self.invariant c.in-Some.is c.args.pick (λ picks run. rw c.in-Err-Spent.field-0-is at (c.in-Err-Spent.ensures picks run))
