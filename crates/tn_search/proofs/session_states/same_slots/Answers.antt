use Rattle.std.proofs.Common.{subst}
use Rattle.std.proofs.lemmas.List.{take_all}
use Rattle.def_explore.specs.Lists.{EachOf}
use Rattle.tn_search.specs.Sessions.{AreSameAt}
use Rattle.tn_search.proofs.Sessions.{each_more}
use Rattle.tn_search.proofs.session_states.same_slots.Goals as goal

pub loop-place-preserved : goal.loop-place-preserved
loop-place-preserved g c =
    let l = c.loop-place in
    each_more (AreSameAt g.K.MessageSink.keeps g.K.SearchSink.is_by_process c.args.one.now c.args.other.now) c.args.places.now l.place-index c.loop-place-test.true l.invariant (c.same_at.ensures c.if-not-same_at.false)

pub returns : goal.returns
returns g c = λ _.
    let l = c.loop-place in
    subst (EachOf (AreSameAt g.K.MessageSink.keeps g.K.SearchSink.is_by_process c.args.one.now c.args.other.now)) (take_all l.place-index c.args.places.now c.loop-place-test.false) l.invariant
