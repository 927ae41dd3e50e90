use Rattle.std.proofs.Common.{take}
use Rattle.def_explore.specs.Lists.{EachOf}
use Rattle.tn_search.specs.Sessions.{AreSameAt}
use Rattle.tn_search.proofs.session_states.same_slots.Given as goal

abbrev pub invariant-loop-place : goal.invariant-loop-place
invariant-loop-place g l = EachOf (AreSameAt g.K.MessageSink.keeps g.K.SearchSink.is_by_process l.one l.other) (take l.place-index l.places)
