-- The sessions of a run by their names: those of a recorder, and what one more pick makes of them.
use Rattle.std.proofs.Common.{◌≡◌, ◌∙◌, ℕ, suc, List, [], ◌∷◌, ◌++◌, refl, sym, ap, subst}
use Rattle.def_term.specs.Alive.{Alive}
use Rattle.def_term.specs.Names.{Name}
use Rattle.def_term.specs.Tree.{Tree}
use Rattle.def_script.specs.Program.{Program}
use Rattle.def_script.specs.Exports.{Exports, exports_of}
use Rattle.def_script.specs.Script.{creations}
use Rattle.def_run.specs.Run.{HistoryItem, events, pick_step_after}
use Rattle.def_run.specs.History.{NamedSession, all_after, all_after_items, named_sessions}
use Rattle.def_run.specs.HistoryLaws.{sessions_by_view}
use Rattle.def_run.proofs.Histories.{all-after}
use Rattle.tn_term.specs.Views.{alive_of}
use Rattle.tn_trace.specs.Tracks.{tracks_from}
use Rattle.tn_trace.specs.Slots.{IsTracked, EachPair}
use Rattle.tn_trace.specs.Recorders.{HasRecorded}
use Rattle.tn_trace.specs.NamedSessions.{sessions_after, HasState}
use Rattle.tn_trace.specs.declared.slot.Slot.{Slot}
use Rattle.tn_trace.specs.declared.recorder.Recorder.{Recorder}
use Rattle.tn_trace.proofs.Moves.{events_more}

after-append : (o : Exports) (ss : List NamedSession) (xs ys : List HistoryItem) → all_after_items o ss (xs ++ ys) ≡ all_after_items o (all_after_items o ss xs) ys
after-append o ss [] ys = refl
after-append o ss (x ∷ xs) ys = after-append o (all_after o ss x) xs ys

pub sessions_more : (p : Program) (picks : List ℕ) (pick : ℕ) → sessions_after p (picks ++ pick ∷ []) ≡ all_after_items (exports_of p) (sessions_after p picks) (pick_step_after p picks pick).shown
sessions_more p picks pick =
    ap (all_after_items (exports_of p) (named_sessions p)) (events_more p picks pick) ∙ after-append (exports_of p) (named_sessions p) (events p picks) (pick_step_after p picks pick).shown

-- a slot that is tracked has the state of its session's view
each_named : {A K : Type 0} (Keeps : K → List Tree → Type 0) (o : Exports) (living : Alive) (items : List HistoryItem) (n : ℕ) (cs : List (Name × Name)) (slots : List (Slot A K)) → EachPair (IsTracked Keeps o living) (tracks_from o items n cs) slots
    → EachPair (HasState o living) (sessions_by_view o cs items) slots
each_named Keeps o living items n [] [] h = h
each_named Keeps o living items n [] (s ∷ ss) h = h
each_named Keeps o living items n (c ∷ cs) [] h = h
each_named Keeps o living items n (c ∷ cs) (s ∷ ss) h = (record { name = h.0.name; session = h.0.session }, each_named Keeps o living items (suc n) cs ss h.1)

-- the sessions of a recorder are those of the run
pub recorded_sessions : {A K : Type 0} (Keeps : K → List Tree → Type 0) (r : Recorder A K) (p : Program) (picks : List ℕ) → HasRecorded Keeps r p picks → EachPair (HasState (exports_of p) (alive_of r.living)) (sessions_after p picks) r.slots.items
recorded_sessions Keeps r p picks h =
    subst (λ ss. EachPair (HasState (exports_of p) (alive_of r.living)) ss r.slots.items) (sym (all-after (exports_of p) (creations p.commands) [] (events p picks)))
    (each_named Keeps (exports_of p) (alive_of r.living) (events p picks) 1 (creations p.commands) r.slots.items h.sessions)
