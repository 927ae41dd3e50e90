-- A worker's end of the run queue may cross to another thread.
use denote.RattleType.{RattleType}
use denote.Ref.{NamedLft}
use denote.Param.Send.{IsSend, IsSync, Frees, sendable}
use Rattle.std.specs.declared.alloc.Allocator.{Ghosts}
use Rattle.std.proofs.CrossingOver.{crosses}
use Rattle.std.proofs.Crossing as heap
use Rattle.tn_pool.proofs.token.Token.TheSendSync as token_sent
use Rattle.tn_pool.specs.contracts.turns.TurnEnd as turn_end
use Rattle.atomic_blocks.proofs.web.Web.TheSendSync as web_sent
use Rattle.atomic_blocks.proofs.web.Seat.TheSendSync as view_sent

module _ (T : RattleType) (g : Ghosts T.Denot) (s : IsSend T) (f : Frees g g.dealloc_token) (y : IsSync T) where
  pub turn_end_send : (k : NamedLft) → IsSend (turn_end.the_row k T g)
  turn_end_send k = search (sendable, crosses, heap.crosses, token_sent.the_send, web_sent.the_sync, view_sent.the_send) depth 40 fits 3000 parts 0
