-- What a transcript stands for, where its run is that of some picks.
use Rattle.std.proofs.Common.{◌≡◌, ◌∙◌, ℕ, ◌<◌, ◌≤◌, List, [], ◌∷◌, length, map, get_or, Some, None, refl, suc, ap, ap₂, sym, subst}
use Rattle.std.specs.Prelude.{slice_get}
use Rattle.std.specs.Option.{option_map}
use Rattle.std.proofs.lemmas.Option.{slice_get-map, slice_get-get_or, slice_get_past}
use Rattle.def_term.specs.Alive.{Alive}
use Rattle.def_term.specs.Names.{Name}
use Rattle.def_script.specs.Program.{Program}
use Rattle.def_script.specs.Exports.{Exports, exports_of}
use Rattle.def_script.specs.Script.{creations}
use Rattle.def_run.specs.Run.{HistoryItem, start, moves, events}
use Rattle.def_run.specs.Listing.{replies_from, lines_of}
use Rattle.def_run.proofs.Replay.{events_again, moves_again}
use Rattle.tn_term.specs.Views.{alive_of}
use Rattle.tn_trace.specs.Items.{AreTexts}
use Rattle.tn_trace.specs.Tracks.{tracks_from}
use Rattle.tn_trace.specs.Slots.{IsTracked, EachPair}
use Rattle.tn_trace.specs.Recorders.{HasRecorded}
use Rattle.tn_trace.specs.Runs.{IsRun}
use Rattle.tn_trace.specs.Transcripts.{TranscriptValue, transcript_of, slot_lines}
use Rattle.tn_trace.proofs.ListingBytes.{lines_over}
use Rattle.tn_trace.specs.declared.recorder.Recorder.{Recorder}
use Rattle.tn_trace.specs.declared.run.Run.{Run}
use Rattle.tn_trace.specs.declared.slot.Slot.{Slot}
use Rattle.tn_trace.specs.declared.sinks.Lines.{Lines}

pub lines_there : {A : Type 0} (o : Exports) (living : Alive) (items : List HistoryItem) (n : ℕ) (ss : List (Name × Name)) (slots : List (Slot A (Lines A)))
    → EachPair (IsTracked AreTexts o living) (tracks_from o items n ss) slots → slot_lines slots ≡ map (lines_over o items) ss
lines_there o living items n [] [] h = refl
lines_there o living items n [] (x ∷ slots) h = absurd h
lines_there o living items n (s ∷ ss) [] h = absurd h
lines_there o living items n (s ∷ ss) (x ∷ slots) h = ap₂ ◌∷◌ h.0.kept (lines_there o living items (suc n) ss slots h.1)

-- of the picks that moved, what all picks give
pub transcript_is : {A : Type 0} (p : Program) (picks : List ℕ) (r : Recorder A (Lines A)) (journal : List ℕ) → HasRecorded AreTexts r p (moves p picks) → journal ≡ moves p picks
    → record { listings = slot_lines r.slots.items; replied = r.replies.text.items; journal = journal } ≡ transcript_of p picks
transcript_is p picks r journal recorded journaled =
    let o : Exports = exports_of p in
    let listed = lines_there o (alive_of r.living) (events p (moves p picks)) 1 (creations p.commands) r.slots.items recorded.sessions
    ∙ ap (λ items. map (lines_over o items) (creations p.commands)) (events_again p picks) in
    let replied = recorded.replied ∙ ap (λ items. lines_of (replies_from o [] items)) (events_again p picks) in
    λ i. record { listings = listed i; replied = replied i; journal = journaled i }

-- the lines at a place; none past the last session
pub lines_read : {A : Type 0} (xs : List (Slot A (Lines A))) (i : ℕ) (slot : Slot A (Lines A)) (text : List ℕ) (v : TranscriptValue) → slot_lines xs ≡ v.listings → i < length xs → slot ≡ get_or xs i slot
    → text ≡ slot.kept.text.items → Some text ≡ slice_get v.listings i
lines_read xs i slot text v seen below at kept =
    ap Some kept ∙ ap (option_map (λ s. s.kept.text.items)) (ap Some at ∙ sym (slice_get-get_or xs i slot below)) ∙ sym (slice_get-map (λ s. s.kept.text.items) xs i) ∙ ap (λ ls. slice_get ls i) seen

pub lines_past : {A : Type 0} (xs : List (Slot A (Lines A))) (i : ℕ) (v : TranscriptValue) → slot_lines xs ≡ v.listings → length xs ≤ i → None ≡ slice_get v.listings i
lines_past xs i v seen past =
    ap (option_map (λ s. s.kept.text.items)) (sym (slice_get_past xs i past)) ∙ sym (slice_get-map (λ s. s.kept.text.items) xs i) ∙ ap (λ ls. slice_get ls i) seen

-- a run of picks that all move is that of the picks that moved
pub moved_run : {A O : Type 0} (Seen : O → Program → List ℕ → Type 0) (p : Program) (limit : ℕ) (picks : List ℕ) (r : Run A O) → IsRun Seen p limit picks r → IsRun Seen p limit (moves p picks) r
moved_run Seen p limit picks r run = subst (λ xs. IsRun Seen p limit xs r) (sym run.moved) run

-- the picks that moved have the transcript of all picks
pub transcript_again : (p : Program) (picks : List ℕ) → transcript_of p (moves p picks) ≡ transcript_of p picks
transcript_again p picks =
    let o : Exports = exports_of p in
    let listed = ap (λ items. map (lines_over o items) (creations p.commands)) (events_again p picks) in
    let replied = ap (λ items. lines_of (replies_from o [] items)) (events_again p picks) in
    let journaled = moves_again p.functions (start p) picks in
    λ i. record { listings = listed i; replied = replied i; journal = journaled i }
