use denote.Param.Send.{sendable, Frees, IsSend, IsSync, AllSync, param_send, param_sync, arg_send, arg_sync}
use denote.Param.{copied, param}
use denote.RattleType.{RattleType}
use denote.Ref.{NamedLft}
use mir.Syntax.{Sym}
use denote.Struct.Tuple.{TupleAt}
use denote.Struct.Field.{shr_ref_field, u32-field}
use Rattle.tn_pool.specs.contracts.board.Board as board
use Rattle.tn_live.specs.contracts.live.Live as live
use Rattle.tn_pool.specs.contracts.worker.Worker as worker
use Rattle.tn_pool.specs.contracts.turns.TurnEnd as turn_end
use Rattle.std.proofs.Common.{rules, List, [], ◌∷◌}
use Rattle.std.proofs.Crossing as heap
use Rattle.tn_pool.specs.Reports.{HasWorked}
use Rattle.tn_pool.proofs.Reports.{at_place}
use Rattle.tn_pool.proofs.Crossings.{live_sync, live_field_sync, board_sync, captured_sync, worker_send, tuple_send}
use Rattle.tn_pool.proofs.EndCrossings.{turn_end_send}
use Rattle.tn_pool.proofs.workers.run_all.Goals as goal

pub returns-clause-each : goal.returns-clause-each
returns-clause-each g c = λ i d lt.
    let k = (c.for_each_mut.ensures i d lt).1 in
    let w : HasWorked g.J.JournalName.program c.args.turns k.argument.now k.after_call.now = search rules in
    at_place _ _ _ _ i d _ _ k.argument_is k.left w

pub for_each_mut-requires-clause-accepts : goal.for_each_mut-requires-clause-accepts
for_each_mut-requires-clause-accepts g c = λ κs within i p lt at.
    let t = c.type_bounds in (
      record { owned = t.send-A.owned; leaving = t.send-A.leaving },
      search sendable depth 30 fits 3000 parts 0,
      record { shared = t.sync-A.shared },
      record { shared = t.sync-J.shared },
      record { shared = t.sync-R.shared },
      record { shared = t.sync-G.shared },
      t.frees-A-Allocator,
    )

-- a worker and its end of the run queue may cross to a thread of their own
pub for_each_mut-requires-send-T : goal.for_each_mut-requires-send-T
for_each_mut-requires-send-T g c κs within =
    let send : IsSend (copied 0 g.row.A) = c.type_bounds.send-A in
    let sync : IsSync (copied 0 g.row.A) = c.type_bounds.sync-A in
    let frees : Frees g.A.Allocator g.A.Allocator.dealloc_token = c.type_bounds.frees-A-Allocator in
    let types : NamedLft → List RattleType =
    λ k. turn_end.the_row k (copied 0 g.row.A) g.A.Allocator ∷ worker.the_row (copied 0 g.row.A) (param 1 g.row.J) g.A.Allocator g.J.JournalName ∷ [] in
    let worker_sent : IsSend (worker.the_row (copied 0 g.row.A) (param 1 g.row.J) g.A.Allocator g.J.JournalName) =
    search (sendable, heap.crosses, worker_send) depth 40 fits 3000 parts 0 in
    let member : (name : Sym) (k : NamedLft) → IsSend (TupleAt name (types k)) =
    λ name k. tuple_send name (types k) (turn_end_send (copied 0 g.row.A) g.A.Allocator send frees sync k, (worker_sent, tt)) in
    search (param_send, arg_send, member) depth 40 fits 3000 parts 0

-- the lock, the board, the gate and the runtime are for all threads
pub for_each_mut-requires-sync-F : goal.for_each_mut-requires-sync-F
for_each_mut-requires-sync-F g c κs within =
    let send : IsSend (copied 0 g.row.A) = c.type_bounds.send-A in
    let sync : IsSync (copied 0 g.row.A) = c.type_bounds.sync-A in
    let frees : Frees g.A.Allocator g.A.Allocator.dealloc_token = c.type_bounds.frees-A-Allocator in
    let types : NamedLft → NamedLft → NamedLft → NamedLft → NamedLft → List RattleType =
    λ k l m n o. (shr_ref_field k (live.the_row (copied 0 g.row.A) (param 1 g.row.J) g.A.Allocator g.J.JournalName) tt).row
    ∷ (shr_ref_field l (board.the_row (copied 0 g.row.A) g.A.Allocator) tt).row
    ∷ (shr_ref_field m (param 3 g.row.G) tt).row
    ∷ (shr_ref_field n (param 2 g.row.R) tt).row
    ∷ (shr_ref_field o u32-field.row tt).row
    ∷ [] in
    let board_shared : IsSync (board.the_row (copied 0 g.row.A) g.A.Allocator) = board_sync (copied 0 g.row.A) g.A.Allocator send frees sync in
    let each : (k l m n o : NamedLft) → AllSync (types k l m n o) =
    λ k l m n o. (
      search (sendable, heap.crosses, live_sync, live_field_sync) depth 40 fits 3000 parts 0,
      (
        search (sendable, board_shared) depth 40 fits 3000 parts 0,
        (search sendable depth 40 fits 3000 parts 0, (search sendable depth 40 fits 3000 parts 0, (search sendable depth 40 fits 3000 parts 0, tt))),
      ),
    ) in
    let captured : (name : Sym) (k l m n o : NamedLft) → IsSync (TupleAt name (types k l m n o)) =
    λ name k l m n o. captured_sync name (types k l m n o) (each k l m n o) in
    search (param_sync, arg_sync, captured) depth 40 fits 3000 parts 0
