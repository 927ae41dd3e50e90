use Rattle.std.proofs.Common.{◌≡◌, ◌∙◌, length, ap, sym, subst, arith}
use Rattle.def_explore.specs.Lists.{EachOf}
use Rattle.tn_term.specs.Views.{alive_of}
use Rattle.tn_node.specs.Nodes.{state_in}
use Rattle.tn_trace.specs.declared.recorder.Recorder.{Recorder}
use Rattle.tn_search.specs.Sessions.{AreSameAt}
use Rattle.tn_search.proofs.Steps.{same_states}
use Rattle.tn_search.proofs.program_state.ProgramStateSearchState.same.Goals as goal

pub returns : goal.returns
returns g c = λ x yes a is also.
    let Keeps = g.K.MessageSink.keeps in
    let b = g.K.SearchSink.is_by_process in
    let s = c.args.self.now in
    let t = c.args.other.now in
    let one : length c.journal.result.now ≡ length s.run.journal.items = ap length c.journal.ensures in
    let two : length c.journal-2.result.now ≡ length t.run.journal.items = ap length c.journal-2.ensures in
    let node : state_in s.run.node ≡ state_in t.run.node = sym (ap state_in c.node.ensures) ∙ c.same.ensures.0 c.if-not-same.false ∙ ap state_in c.node-2.ensures in
    let living : alive_of s.run.observer.living ≡ alive_of t.run.observer.living =
    sym (ap (λ (o : Recorder g.row.A.Denot g.row.K.Denot). alive_of o.living) c.observer-one.ensures) ∙ c.same_living.ensures c.if-not-same_living.false ∙ ap (λ (o : Recorder g.row.A.Denot g.row.K.Denot). alive_of o.living) c.observer-two.ensures in
    same_states Keeps b x s t a is also (omega (arith, c.if-journal.false)) node living
    (subst (EachOf (AreSameAt Keeps b s.run.observer.slots.items t.run.observer.slots.items)) c.deref.ensures.value
    (subst (λ xs. EachOf (AreSameAt Keeps b xs t.run.observer.slots.items) c.deref.result.now) (c.deref-2.ensures.value ∙ ap (λ (o : Recorder g.row.A.Denot g.row.K.Denot). o.slots.items) c.observer-one.ensures)
    (subst (λ ys. EachOf (AreSameAt Keeps b c.deref-2.result.now ys) c.deref.result.now) (c.deref-3.ensures.value ∙ ap (λ (o : Recorder g.row.A.Denot g.row.K.Denot). o.slots.items) c.observer-two.ensures) (c.same_slots.ensures yes))))
