use Rattle.std.proofs.Common.{◌∙◌, ◌∷◌, [], ◌++◌, subst, ap}
use Rattle.tn_explore.specs.SearchStates.{StepGives}
use Rattle.tn_trace.specs.declared.recorder.Recorder.{Recorder}
use Rattle.tn_search.specs.States.{IsStateFor, state_journal}
use Rattle.tn_search.proofs.FreeSessions.{free_lent, leaves_free}
use Rattle.tn_search.proofs.reduction.leaves_sessions_free.Goals as goal

pub returns : goal.returns
returns g c = λ h.
    let Keeps = g.K.MessageSink.keeps in
    let b = g.K.SearchSink.is_by_process in
    let x = c.args.program.now in
    let s = c.args.state.now in
    let t = c.advance.new.self in
    let pick = c.args.pick in
    let slots_in = λ (r : Recorder g.row.A.Denot g.row.K.Denot). r.slots.items in
    let before = free_lent Keeps pick c.deref-2.result.now s.run.observer.slots.items c.deref.result.now s.places.items (c.deref-2.ensures.value ∙ ap slots_in c.observer.ensures) c.deref.ensures.value (c.are_free.ensures c.if-not-are_free.false) in
    let after = free_lent Keeps pick c.deref-4.result.now t.run.observer.slots.items c.deref-3.result.now t.places.items (c.deref-4.ensures.value ∙ ap slots_in c.observer-2.ensures) c.deref-3.ensures.value (c.are_free-2.ensures h) in
    leaves_free Keeps b x s t pick before after (λ a is.
    let copy = c.in_ok-after.ensures x a is in
    let gives = subst (StepGives state_journal (IsStateFor Keeps b x) a (state_journal c.in_ok-after.after) pick t) c.if-not-branch.false (c.in_ok-advance.ensures a copy.1) in
    (gives.1 ∙ ap (λ js. js ++ pick ∷ []) copy.0, gives.2))
