use Rattle.std.proofs.Common.{subst}
use Rattle.tn_search.specs.Sessions.{IsSameSession}
use Rattle.tn_search.specs.Sinks.{KeepSame}
use Rattle.tn_search.proofs.Sessions.{slot_same}
use Rattle.tn_search.proofs.session_states.same_slot.Goals as goal

pub returns : goal.returns
returns g c = λ yes.
    slot_same g.K.MessageSink.keeps g.K.SearchSink.is_by_process c.args.one.now c.args.other.now (subst (IsSameSession c.args.one.now.session c.args.other.now.session) c.if-not-same_session.false c.same_session.ensures)
    (subst (KeepSame g.K.MessageSink.keeps g.K.SearchSink.is_by_process c.args.one.now.kept c.args.other.now.kept) yes c.same.ensures)
