use Rattle.std.proofs.Common.{◌∙◌}
use Rattle.tn_search.proofs.Steps.{shared}
use Rattle.tn_search.proofs.program_state.ProgramStateSearchState.share.Goals as goal

pub returns : goal.returns
returns g c = λ x a is.
    let s = c.args.self.now in
    shared g.K.MessageSink.keeps g.K.SearchSink.is_by_process x s (record { alloc = s.alloc; places = c.in_ok-places.places; run = c.in_ok-run.run'; filter = record {} }) a is (c.in_ok-places.ensures ∙ c.deref.ensures.value) c.in_ok-run.ensures
