use Rattle.std.proofs.Common.{[], sym, subst}
use Rattle.std.proofs.lemmas.List.{take_all}
use Rattle.tn_search.specs.Sessions.{AreKeptAt}
use Rattle.tn_search.proofs.Places.{kept_more, none_kept}
use Rattle.tn_search.proofs.session_states.share_kept.Goals as goal

pub loop-place-init : goal.loop-place-init
loop-place-init g c = subst (AreKeptAt g.K.MessageSink.keeps [] c.args.slots.now) (sym c.in_ok-sinks.ensures.items) (none_kept g.K.MessageSink.keeps c.args.slots.now)

pub loop-place-preserved : goal.loop-place-preserved
loop-place-preserved g c =
    let l = c.loop-place in
    kept_more g.K.MessageSink.keeps c.args.places.now l.place-index c.args.slots.now l.sinks.items c.add_kept.new.sinks.items c.loop-place-test.true c.in_ok-add_kept.ensures l.invariant

pub returns : goal.returns
returns g c =
    let l = c.loop-place in
    subst (λ ns. AreKeptAt g.K.MessageSink.keeps ns c.args.slots.now l.sinks.items) (take_all l.place-index c.args.places.now c.loop-place-test.false) l.invariant
