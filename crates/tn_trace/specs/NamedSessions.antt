-- The sessions of a run by their names and states, and the code's slots that stand for them.
use Rattle.std.specs.Prelude.{◌≡◌, ℕ, List}
use Rattle.def_term.specs.Alive.{Alive}
use Rattle.def_script.specs.Program.{Program}
use Rattle.def_script.specs.Exports.{Exports, exports_of}
use Rattle.def_run.specs.Run.{events}
use Rattle.def_run.specs.History.{NamedSession, all_after_items, named_sessions}
use Rattle.tn_trace.specs.Slots.{IsSession}
use Rattle.tn_trace.specs.declared.slot.Slot.{Slot}

-- the program's sessions after these picks
abbrev pub sessions_after : Program → List ℕ → List NamedSession
sessions_after p picks = all_after_items (exports_of p) (named_sessions p) (events p picks)

-- the slot is this session's, over the functions of the program and where these processes live
pub record HasState {A K : Type 0} (o : Exports) (living : Alive) (s : NamedSession) (slot : Slot A K) : Type 0 where
  pub name : slot.name ≡ s.0
  pub session : IsSession o.functions living s.1 slot.session
