use Rattle.std.proofs.Common.{◌≡◌, ◌∙◌, List, ap, sym, subst}
use Rattle.std.proofs.lemmas.Result.{IfOk-weaker}
use Rattle.def_term.specs.Tree.{Tree}
use Rattle.tn_messages.specs.MessageViews.{kept_seen, kept_lists}
use Rattle.tn_trace.specs.declared.recorder.Recorder.{Recorder}
use Rattle.tn_search.specs.Sessions.{AreSinksOf, AreKeptAt}
use Rattle.tn_search.proofs.Steps.{observed}
use Rattle.tn_search.proofs.program_state.ProgramStateSearchState.observe.Goals as goal

pub returns : goal.returns
returns g c =
    let Keeps = g.K.MessageSink.keeps in
    let b = g.K.SearchSink.is_by_process in
    let s = c.args.self.now in
    let sinks = c.deref-3.result.now in
    IfOk-weaker c.gather.result (λ l. (mss : List (List Tree)) → AreSinksOf Keeps mss sinks → kept_seen l ≡ kept_lists b mss) _
    (λ l gathers x a is. observed Keeps b x s a is sinks (kept_seen l) (subst (λ ps. AreKeptAt Keeps ps s.run.observer.slots.items sinks) c.deref.ensures.value
    (subst (λ xs. AreKeptAt Keeps c.deref.result.now xs sinks) (c.deref-2.ensures.value ∙ ap (λ (o : Recorder g.row.A.Denot g.row.K.Denot). o.slots.items) c.observer.ensures)
    (subst (AreKeptAt Keeps c.deref.result.now c.deref-2.result.now) (sym c.deref-3.ensures.value) c.in_ok-sinks.ensures))) gathers)
    c.gather.ensures
