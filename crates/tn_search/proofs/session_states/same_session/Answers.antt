use Rattle.tn_search.proofs.Sessions.{created_same, absent_same, none_says}
use Rattle.tn_search.proofs.session_states.same_session.Goals as goal

pub returns-in-Some-other : goal.returns-in-Some-other
returns-in-Some-other g c = created_same c.args.one.now c.args.other.now c.in-Some.one c.in-Some-other.other c.same.result c.in-Some.is c.in-Some-other.is c.same.ensures

pub returns-in-None : goal.returns-in-None
returns-in-None g c = absent_same c.args.one.now c.args.other.now c.is_none.result c.in-None.is (none_says c.args.other.now c.is_none.result c.is_none.ensures)
