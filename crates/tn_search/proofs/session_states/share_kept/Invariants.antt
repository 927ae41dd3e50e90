use Rattle.std.proofs.Common.{take}
use Rattle.tn_search.specs.Sessions.{AreKeptAt}
use Rattle.tn_search.proofs.session_states.share_kept.Given as goal

abbrev pub invariant-loop-place : goal.invariant-loop-place
invariant-loop-place g l = AreKeptAt g.K.MessageSink.keeps (take l.place-index l.places) l.slots l.sinks.items
