use Rattle.std.proofs.Common.{take}
use Rattle.def_explore.specs.Lists.{EachOf}
use Rattle.tn_search.specs.Sessions.{IsFreeAt}
use Rattle.tn_search.proofs.session_states.are_free.Given as goal

abbrev pub invariant-loop-place : goal.invariant-loop-place
invariant-loop-place g l = EachOf (IsFreeAt g.K.MessageSink.keeps l.pid l.slots) (take l.place-index l.places)
