-- What the sessions make of an event and of a command, one after the other.
use Rattle.std.proofs.Common.{◌≡◌, ◌∙◌, ℕ, suc, ◌+◌, ◌<◌, ◌≤◌, Bool, true, false, if◌then◌else◌, List, [], ◌∷◌, ◌++◌, map, length, drop, get_or, Option, refl, sym, ap, add-one, append-nil, append_assoc}
use Rattle.std.proofs.Math.ListN.{set}
use Rattle.std.specs.Str.{bytes_eq}
use Rattle.def_term.specs.Alive.{Alive}
use Rattle.def_term.specs.Names.{Name}
use Rattle.def_term.specs.Tree.{Tree}
use Rattle.def_script.specs.Program.{Command, session_of}
use Rattle.def_script.specs.Exports.{Exports}
use Rattle.def_session.specs.State.{absent_session}
use Rattle.def_session.specs.Commands.{command_done}
use Rattle.def_run.specs.Run.{HistoryItem, command_item}
use Rattle.def_run.specs.History.{NamedSession, after, all_after, item_message}
use Rattle.def_picture.specs.Picture.{Report, report_of, reports_of}
use Rattle.tn_trace.specs.Slots.{IsTracked, ObeysOwn, EachPair, EachUpTo}
use Rattle.tn_trace.specs.Tracks.{Track, tracks_from}
use Rattle.tn_trace.specs.declared.slot.Slot.{Slot}
use Rattle.tn_trace.proofs.Places.{up_to_none, up_to_all, all_dropped, each_mapped, place_here}
use Rattle.tn_picture.specs.Slots.{IsSlotOf}
use Rattle.tn_trace.specs.declared.discard.Discard.{Discard}

-- ---- one session

module _ {A : Type 0} (o : Exports) (living : Alive) (s : NamedSession) (old : Slot A Discard) (h : IsSlotOf o living s old) where
  abbrev pub track : Track
  track = record { number = old.number; name = s.0; session = s.1; messages = [] }

  pub tracked : IsTracked (λ (k : Discard) (ts : List Tree). Unit {0}) o living track old
  tracked = record { number = refl; name = h.name; session = h.session; kept = tt }

  obeyed-by : (c : Command) (new : Slot A Discard) (b : Bool) → bytes_eq s.0 (session_of c) ≡ b → IsTracked (λ (k : Discard) (ts : List Tree). Unit {0}) o living (if b then record track { session = (command_done o s.1 c).0 } else track) new
      → IsSlotOf o living (s.0, if b then (command_done o s.1 c).0 else s.1) new
  obeyed-by c new true e k = record { name = k.name; session = k.session }
  obeyed-by c new false e k = record { name = k.name; session = k.session }

  pub has_obeyed : (c : Command) (new : Slot A Discard) (r : Option Tree) → ObeysOwn (λ (k : Discard) (ts : List Tree). Unit {0}) o living track c new r → IsSlotOf o living (after o s (command_item c)) new
  has_obeyed c new r d = obeyed-by c new (bytes_eq s.0 (session_of c)) refl d.0

-- ---- all sessions

module _ {A : Type 0} (o : Exports) (living living' : Alive) (x : HistoryItem) (ss : List NamedSession) where
  -- the sessions up to a place saw what is shown
  abbrev pub HasSeenUpTo : ℕ → List (Slot A Discard) → Type 0
  HasSeenUpTo n slots = EachUpTo (λ s t. IsSlotOf o living' (after o s x) t) (IsSlotOf o living) n ss slots

  pub none_yet : (slots : List (Slot A Discard)) → EachPair (IsSlotOf o living) ss slots → HasSeenUpTo 0 slots
  none_yet slots h = up_to_none (λ s t. IsSlotOf o living' (after o s x) t) (IsSlotOf o living) ss slots h

  pub all_by_now : (n : ℕ) (slots : List (Slot A Discard)) → length slots ≤ n → HasSeenUpTo n slots → EachPair (IsSlotOf o living') (all_after o ss x) slots
  all_by_now n slots past h = each_mapped (IsSlotOf o living') (λ s. after o s x) ss slots (up_to_all (λ s t. IsSlotOf o living' (after o s x) t) (IsSlotOf o living) n ss slots past h)

  pub one_more_sees : (n : ℕ) (slots : List (Slot A Discard)) (old new : Slot A Discard) → n < length slots → old ≡ get_or slots n old → ((s : NamedSession) → IsSlotOf o living s old → IsSlotOf o living' (after o s x) new)
      → HasSeenUpTo n slots → HasSeenUpTo (n + 1) (set slots n new)
  one_more_sees n slots old new below is sees h =
      let here = place_here (λ s t. IsSlotOf o living' (after o s x) t) (IsSlotOf o living) n ss slots old new below is h in
      here.after (sees here.here here.before)

  -- and the reports of the others are still to come
  pub record HasReportedUpTo (n : ℕ) (slots : List (Slot A Discard)) (first now : List Report) : Type 0 where
    pub seen : HasSeenUpTo n slots
    pub reports : now ++ reports_of (n + 1) (drop n ss) x ≡ first ++ reports_of 1 ss x

  pub none_reported : (slots : List (Slot A Discard)) (first : List Report) → EachPair (IsSlotOf o living) ss slots → HasReportedUpTo 0 slots first first
  none_reported slots first h = record { seen = none_yet slots h; reports = refl }

  pub all_reported : (n : ℕ) (slots : List (Slot A Discard)) (first now : List Report) → length slots ≤ n → HasReportedUpTo n slots first now → EachPair (IsSlotOf o living') (all_after o ss x) slots × (now ≡ first ++ reports_of 1 ss x)
  all_reported n slots first now past h = (
    all_by_now n slots past h.seen,
    sym (ap (λ ts. now ++ reports_of (n + 1) ts x) (all_dropped (λ s t. IsSlotOf o living' (after o s x) t) (IsSlotOf o living) n ss slots past h.seen) ∙ append-nil now) ∙ h.reports,
  )

  pub more_reported : (n : ℕ) (slots : List (Slot A Discard)) (old new : Slot A Discard) (first now next : List Report) → n < length slots → old ≡ get_or slots n old
      → ((s : NamedSession) → IsSlotOf o living s old → IsSlotOf o living' (after o s x) new × (next ≡ now ++ map (report_of (n + 1)) (item_message s.1 x)))
      → HasReportedUpTo n slots first now → HasReportedUpTo (n + 1) (set slots n new) first next
  more_reported n slots old new first now next below is reports h =
      let here = place_here (λ s t. IsSlotOf o living' (after o s x) t) (IsSlotOf o living) n ss slots old new below is h.seen in
      let m = reports here.here here.before in
      let rest : List Report = reports_of (n + 1 + 1) (drop (n + 1) ss) x in
      record {
        seen = here.after m.0;
        reports = ap (λ l. l ++ rest) m.1
            ∙ append_assoc now (map (report_of (n + 1)) (item_message here.here.1 x)) rest
            ∙ ap (λ k. now ++ (map (report_of (n + 1)) (item_message here.here.1 x) ++ reports_of k (drop (n + 1) ss) x)) (add-one (n + 1))
            ∙ ap (λ ts. now ++ reports_of (n + 1) ts x) (sym here.back)
            ∙ h.reports;
      }

-- ---- before any pick

pub at_start : {A : Type 0} (o : Exports) (living : Alive) (Keeps : Discard → List Tree → Type 0) (n : ℕ) (cs : List (Name × Name)) (slots : List (Slot A Discard)) → EachPair (IsTracked Keeps o living) (tracks_from o [] n cs) slots
    → EachPair (IsSlotOf o living) (map (λ s. (s.0, absent_session o)) cs) slots
at_start o living Keeps n [] [] h = tt
at_start o living Keeps n [] (s ∷ ss) h = absurd h
at_start o living Keeps n (k ∷ ks) [] h = absurd h
at_start o living Keeps n (k ∷ ks) (s ∷ ss) h = (record { name = h.0.name; session = h.0.session }, at_start o living Keeps (suc n) ks ss h.1)

-- of a command there is no message
pub no_reports : (n : ℕ) (ss : List NamedSession) (c : Command) → reports_of n ss (command_item c) ≡ []
no_reports n [] c = refl
no_reports n (s ∷ ss) c = no_reports (suc n) ss c
