use Rattle.std.proofs.Common.{arith}
use Rattle.tn_search.proofs.Places.{same_past, same_past_other, same_here}
use Rattle.tn_search.proofs.session_states.same_at.Goals as goal

pub returns-then-place-one : goal.returns-then-place-one
returns-then-place-one g c = λ _. same_past g.K.MessageSink.keeps g.K.SearchSink.is_by_process c.args.one.now c.args.other.now c.args.place (omega (arith, c.if-place-one.true))

pub returns-then-place-other : goal.returns-then-place-other
returns-then-place-other g c = λ _. same_past_other g.K.MessageSink.keeps g.K.SearchSink.is_by_process c.args.one.now c.args.other.now c.args.place (omega (arith, c.if-place-other.true))

pub returns : goal.returns
returns g c = λ yes. same_here g.K.MessageSink.keeps g.K.SearchSink.is_by_process c.args.one.now c.args.other.now c.args.place c.index-one-place.result c.index-other-place.result (omega (arith, c.if-place-one.false)) (omega (arith, c.if-place-other.false)) c.index-one-place.is c.index-other-place.is (c.same_slot.ensures yes)
