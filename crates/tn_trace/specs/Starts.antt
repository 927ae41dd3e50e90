-- The sessions before any pick.
use Rattle.std.specs.Prelude.{[], List, length}
use Rattle.def_term.specs.Tree.{Tree}
use Rattle.def_script.specs.Program.{Program}
use Rattle.def_script.specs.Exports.{exports_of}
use Rattle.def_script.specs.Script.{creations}
use Rattle.def_session.specs.State.{alive_at_start}
use Rattle.tn_trace.specs.Tracks.{Track, tracks_from}
use Rattle.tn_trace.specs.Slots.{IsTracked, EachPair}
use Rattle.tn_trace.specs.declared.slot.Slot.{Slot}

-- those of the control list, none created yet
abbrev pub tracks_at_start : Program → List Track
tracks_at_start p = tracks_from (exports_of p) [] 1 (creations p.commands)

-- the slots are those sessions'
abbrev pub AreAtStart : {A K : Type 0} → (K → List Tree → Type 0) → Program → List (Slot A K) → Type 0
AreAtStart Keeps p slots = EachPair (IsTracked Keeps (exports_of p) (alive_at_start (length p.entries))) (tracks_at_start p) slots
