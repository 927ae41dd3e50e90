use Rattle.tn_verdict.proofs.Pieces.{grown_by, not_grown}
use Rattle.tn_verdict.proofs.spec_test.put_fires.Goals as goal
use Rattle.tn_text.proofs.Growth.{grows_on}

pub returns-in_err-put_effects-clause-grows : goal.returns-in_err-put_effects-clause-grows
returns-in_err-put_effects-clause-grows g c = grows_on c.put_clause.ensures.grows (grows_on (grown_by _ _ _ c.in_ok-extend_from_slice.ensures.items) c.put_effects.ensures.grows)

pub returns-in_err-push-clause-grows : goal.returns-in_err-push-clause-grows
returns-in_err-push-clause-grows g c =
    grows_on c.put_clause.ensures.grows (grows_on (grown_by _ _ _ c.in_ok-extend_from_slice.ensures.items) (grows_on c.put_effects.ensures.grows (not_grown _ _ c.in_err-push.ensures.items)))

pub returns-clause-grows : goal.returns-clause-grows
returns-clause-grows g c =
    grows_on c.put_clause.ensures.grows (grows_on (grown_by _ _ _ c.in_ok-extend_from_slice.ensures.items) (grows_on c.put_effects.ensures.grows (grown_by _ _ _ c.in_ok-push.ensures.items)))
