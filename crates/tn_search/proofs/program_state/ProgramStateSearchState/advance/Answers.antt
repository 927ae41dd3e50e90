use Rattle.std.proofs.Common.{refl}
use Rattle.tn_trace.specs.Recorders.{HandsOutAnswer}
use Rattle.tn_search.proofs.Steps.{on_moved, on_idle, on_full}
use Rattle.tn_search.proofs.program_state.ProgramStateSearchState.advance.Goals as goal

pub returns-in-Moved : goal.returns-in-Moved
returns-in-Moved g c = λ a is.
    let s = c.args.self.now in
    on_moved g.K.MessageSink.keeps g.K.SearchSink.is_by_process (HandsOutAnswer g.K.MessageSink.gives) c.args.context.now s a is c.step.new.self c.args.pick c.new-given.result c.step.new.out c.in_ok-step.field-0
    (λ limit picks h. c.in_ok-step.ensures.taken limit picks h) (record { alloc = s.alloc; places = s.places; run = c.step.new.self; filter = s.filter }) c.in-Moved.is refl refl

pub returns-in-Idle : goal.returns-in-Idle
returns-in-Idle g c = λ a is.
    on_idle g.K.MessageSink.keeps g.K.SearchSink.is_by_process (HandsOutAnswer g.K.MessageSink.gives) c.args.context.now c.args.self.now a is c.step.new.self c.args.pick c.new-given.result c.step.new.out c.in_ok-step.field-0
    (λ limit picks h. c.in_ok-step.ensures.taken limit picks h) c.in-Idle.is

pub returns : goal.returns
returns g c = λ a is.
    on_full g.K.MessageSink.keeps g.K.SearchSink.is_by_process (HandsOutAnswer g.K.MessageSink.gives) c.args.context.now c.args.self.now a is c.step.new.self c.args.pick c.new-given.result c.step.new.out c.in_ok-step.field-0
    (λ limit picks h. c.in_ok-step.ensures.taken limit picks h) c.in-Full.is
