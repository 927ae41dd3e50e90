use Rattle.std.proofs.Common.{◌≡◌, ◌++◌, List, drop}
use Rattle.def_run.specs.Run.{HistoryItem}
use Rattle.def_script.specs.Script.{creations}
use Rattle.tn_state.specs.Sessions.{AreSlotsAfter, AreTakenOf, program_in, texts_in}
use Rattle.tn_state.proofs.session.put_sessions.Given as goal

abbrev pub invariant-loop-place : goal.invariant-loop-place
invariant-loop-place g l =
    (items : List HistoryItem) → AreSlotsAfter (program_in l.context) items l.slots → AreTakenOf (program_in l.context) l.context.taken items
    → l.out.items ++ texts_in l.context items (drop l.place (creations (program_in l.context).commands)) ≡ l.fn.out.items ++ texts_in l.context items (creations (program_in l.context).commands)
