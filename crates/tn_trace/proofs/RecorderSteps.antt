-- The recorder before any pick, and through one more.
use Rattle.std.proofs.Common.{◌≡◌, ℕ, List, [], ◌∷◌, ◌++◌, length, map, sym, subst}
use Rattle.def_term.specs.Tree.{Tree}
use Rattle.def_script.specs.Program.{Command, Program}
use Rattle.def_script.specs.Exports.{exports_of}
use Rattle.def_node.specs.Event.{Event}
use Rattle.def_session.specs.State.{alive_at_start}
use Rattle.def_run.specs.Run.{event_item}
use Rattle.def_run.specs.Listing.{Item as DefinedItem, replies}
use Rattle.tn_term.specs.Views.{alive_of}
use Rattle.tn_trace.specs.Tracks.{tracks_of, with_events, items_of_tracks, AreMore}
use Rattle.tn_trace.specs.Starts.{tracks_at_start}
use Rattle.tn_trace.specs.Slots.{IsTracked, EachPair}
use Rattle.tn_trace.specs.Observers.{IsNextMove, IsNextCommand, SeesMove}
use Rattle.tn_trace.specs.Recorders.{AreTracked, Takes, HasRecorded, HandsOutAnswer}
use Rattle.tn_trace.specs.declared.journal.JournalEntry.{JournalEntry}
use Rattle.tn_trace.specs.declared.recorder.Recorder.{Recorder}
use Rattle.tn_trace.proofs.Moves.{events_pick, command_pick}
use Rattle.tn_trace.proofs.Places.{none_more}

pub nothing_recorded : {A K : Type 0} (Keeps : K → List Tree → Type 0) (p : Program) (r : Recorder A K) → alive_of r.living ≡ alive_at_start (length p.entries)
    → EachPair (IsTracked Keeps (exports_of p) (alive_at_start (length p.entries))) (tracks_at_start p) r.slots.items → Keeps r.replies [] → HasRecorded Keeps r p []
nothing_recorded Keeps p r living sessions replied = record { sessions = subst (λ a. EachPair (IsTracked Keeps (exports_of p) a) (tracks_at_start p) r.slots.items) (sym living) sessions; replied = replied }

module _ {A K G : Type 0} (Keeps : K → List Tree → Type 0) (Gives : G → List DefinedItem → Type 0) (p : Program) (picks : List ℕ) (entry : JournalEntry) (old : Recorder A K) (seen : HasRecorded Keeps old p picks) where
  pub events_recorded : (es : List Event) (new : Recorder A K) (g g' : G) → IsNextMove p picks entry (map event_item es) → AreTracked Keeps (exports_of p) (with_events es (tracks_of p picks)) new
      → AreMore Gives (items_of_tracks es (tracks_of p picks)) g g' → new.replies ≡ old.replies → SeesMove (HasRecorded Keeps) (HandsOutAnswer Gives) p picks entry.pick old new g g'
  events_recorded es new g g' next sessions given same =
      let e = events_pick p picks entry es next in
      record {
        after = record {
          sessions = subst (λ ts. AreTracked Keeps (exports_of p) ts new) e.tracks sessions;
          replied = subst (λ k. Keeps k (replies p (picks ++ entry.pick ∷ []))) (sym same) (subst (Keeps old.replies) e.replied seen.replied);
        };
        added = subst (λ xs. AreMore Gives xs g g') e.reported given;
      }

  pub command_recorded : (c : Command) (new : Recorder A K) (g : G) → IsNextCommand p picks entry c → Takes Keeps (exports_of p) (tracks_of p picks) c old new → SeesMove (HasRecorded Keeps) (HandsOutAnswer Gives) p picks entry.pick old new g g
  command_recorded c new g next takes =
      let e = command_pick p picks entry c next in
      record {
        after = record {
          sessions = subst (λ ts. AreTracked Keeps (exports_of p) ts new) e.tracks takes.sessions;
          replied = subst (Keeps new.replies) e.replied (takes.replied (replies p picks) seen.replied);
        };
        added = subst (λ xs. AreMore Gives xs g g) e.reported (none_more Gives g);
      }
