use Rattle.std.proofs.Common.{refl, rules}
use Rattle.tn_pool.proofs.SeatReceipts.{on_still}
use Rattle.tn_pool.proofs.WorkerEnds.{turned_without_room, turned_without_token, turned_given, turned_kept}
use Rattle.tn_pool.proofs.worker.turn.Goals as goal

pub returns-then-is_err-clause-works : goal.returns-then-is_err-clause-works
returns-then-is_err-clause-works g c = on_still _ _ _ _ refl c.reserve.ensures.items

pub returns-then-is_err-clause-ends : goal.returns-then-is_err-clause-ends
returns-then-is_err-clause-ends g c = turned_without_room _ _ _ refl refl

pub returns-in_default-clause-works : goal.returns-in_default-clause-works
returns-in_default-clause-works g c = on_still _ _ _ _ refl c.reserve.ensures.items

pub returns-in_default-clause-ends : goal.returns-in_default-clause-ends
returns-in_default-clause-ends g c = turned_without_token _ _ _ _ c.in_default.ensures.none refl refl

pub returns-then-not-give_back : goal.returns-then-not-give_back
returns-then-not-give_back g c = record {
  works = search rules;
  few = search rules;
  ends = λ r. turned_kept _ _ _ _ _ _ _ r.holds_none r.keeps_none r.unfailed c.in-Some.ensures.some c.give_back.ensures.same.seat c.step-goes_on.result c.step-goes_on.ensures.ends c.if-not-give_back.ensures.gives;
}

pub returns : goal.returns
returns g c = record {
  works = search rules;
  few = search rules;
  ends = λ r. turned_given _ _ _ _ _ _ _ r.holds_none r.keeps_none r.unfailed c.in-Some.ensures.some c.give_back.ensures.same.seat c.step-goes_on.result c.step-goes_on.ensures.ends c.if-not-give_back.ensures.gives;
}
