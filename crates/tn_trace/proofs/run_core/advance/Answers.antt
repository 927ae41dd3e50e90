use Rattle.std.proofs.Common.{[], map, ap}
use Rattle.tn_program.specs.Views.{program_of}
use Rattle.tn_trace.specs.Items.{item_seen}
use Rattle.tn_trace.specs.declared.run.PickOutcome.TheVariants.{Moved, Idle, Full}
use Rattle.tn_trace.proofs.CoreLemmas.{full_is, term_steps}
use Rattle.tn_trace.proofs.run_core.advance.Goals as goal

pub returns-in-Ok-Moved : goal.returns-in-Ok-Moved
returns-in-Ok-Moved g c = λ picks run.
    let s = term_steps (program_of c.args.program.now) picks c.args.pick c.args.run.now c.step.new.self c.new-items.result c.step.new.out c.in-Ok-Moved.field-0 Moved c.in-Ok-Moved.field-0-is (c.in-Ok-Moved.ensures.taken 65536 picks run) in
    (s.0, s.1, s.2 [] (ap (map item_seen) c.new-items.ensures.items))

pub returns-in-Ok-Idle : goal.returns-in-Ok-Idle
returns-in-Ok-Idle g c = λ picks run.
    let s = term_steps (program_of c.args.program.now) picks c.args.pick c.args.run.now c.step.new.self c.new-items.result c.step.new.out c.in-Ok-Idle.field-0 Idle c.in-Ok-Idle.field-0-is (c.in-Ok-Idle.ensures.taken 65536 picks run) in
    (s.0, s.1, s.2)

pub returns-in-Ok-Full : goal.returns-in-Ok-Full
returns-in-Ok-Full g c = λ picks run.
    let p = program_of c.args.program.now in
    let s = term_steps p picks c.args.pick c.args.run.now c.step.new.self c.new-items.result c.step.new.out c.in-Ok-Full.field-0 Full c.in-Ok-Full.field-0-is (c.in-Ok-Full.ensures.taken 65536 picks run) in
    (full_is p picks run.moved s.0, s.1)
