-- The sessions before any pick.
use Rattle.std.proofs.Common.{ℕ, suc, List, [], ◌∷◌, map}
use Rattle.def_term.specs.Alive.{Alive}
use Rattle.def_term.specs.Names.{Name}
use Rattle.def_term.specs.Tree.{Tree}
use Rattle.def_script.specs.Exports.{Exports}
use Rattle.def_session.specs.State.{absent_session}
use Rattle.tn_trace.specs.Slots.{IsTracked, EachPair}
use Rattle.tn_trace.specs.Tracks.{tracks_from}
use Rattle.tn_trace.specs.declared.slot.Slot.{Slot}
use Rattle.tn_trace.specs.NamedSessions.{HasState}
use Rattle.tn_trace.specs.declared.discard.Discard.{Discard}

pub stand_at_start : {A : Type 0} (Keeps : Discard → List Tree → Type 0) (o : Exports) (living : Alive) (n : ℕ) (cs : List (Name × Name)) (slots : List (Slot A Discard)) → EachPair (IsTracked Keeps o living) (tracks_from o [] n cs) slots
    → EachPair (HasState o living) (map (λ s. (s.0, absent_session o)) cs) slots
stand_at_start Keeps o living n [] [] h = tt
stand_at_start Keeps o living n [] (s ∷ ss) h = absurd h
stand_at_start Keeps o living n (k ∷ ks) [] h = absurd h
stand_at_start Keeps o living n (k ∷ ks) (s ∷ ss) h = (record { name = h.0.name; session = h.0.session }, stand_at_start Keeps o living (suc n) ks ss h.1)
