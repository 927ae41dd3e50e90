use Rattle.std.proofs.Common.{◌≡◌, List, drop}
use Rattle.def_term.specs.Alive.{Alive}
use Rattle.def_script.specs.Exports.{Exports}
use Rattle.def_script.specs.Program.{session_of}
use Rattle.def_run.specs.History.{NamedSession, session_in}
use Rattle.tn_flags.specs.Views.{command_of}
use Rattle.tn_trace.specs.Slots.{EachPair}
use Rattle.tn_trace.specs.NamedSessions.{HasState}
use Rattle.tn_replay.proofs.remark_observer.reason_among.Given as goal

abbrev pub invariant-loop-place : goal.invariant-loop-place
invariant-loop-place g l = (o : Exports) (living : Alive) (ss : List NamedSession) → EachPair (HasState o living) ss l.slots.items →
    session_in o (session_of (command_of l.command)) (drop l.place ss) ≡ session_in o (session_of (command_of l.command)) ss
