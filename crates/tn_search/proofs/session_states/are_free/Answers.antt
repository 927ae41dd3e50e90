use Rattle.std.proofs.Common.{subst}
use Rattle.std.proofs.lemmas.List.{take_all}
use Rattle.def_explore.specs.Lists.{EachOf}
use Rattle.tn_search.specs.Sessions.{IsFreeAt}
use Rattle.tn_search.proofs.Sessions.{each_more}
use Rattle.tn_search.proofs.session_states.are_free.Goals as goal

pub loop-place-preserved : goal.loop-place-preserved
loop-place-preserved g c =
    let l = c.loop-place in
    each_more (IsFreeAt g.K.MessageSink.keeps c.args.pid c.args.slots.now) c.args.places.now l.place-index c.loop-place-test.true l.invariant (c.is_free_at.ensures c.if-not-is_free_at.false)

pub returns : goal.returns
returns g c = λ _.
    let l = c.loop-place in
    subst (EachOf (IsFreeAt g.K.MessageSink.keeps c.args.pid c.args.slots.now)) (take_all l.place-index c.args.places.now c.loop-place-test.false) l.invariant
