-- What the code counts of a run is what its definitions count.
use Rattle.std.proofs.Common.{◌≡◌, ◌∙◌, ℕ, suc, ◌-◌, ◌≤◌, List, [], ◌∷◌, ◌++◌, length, map, take, filter, replicate, refl, sym, ap, ap₂, subst, append_assoc, append-nil, length-append, take_all, arith}
use Rattle.std.proofs.lemmas.List.{take-append-le}
use Rattle.std.specs.declared.vec.Vec.{Vec}
use Rattle.def_term.specs.Names.{Name}
use Rattle.def_term.specs.Alive.{Alive}
use Rattle.def_script.specs.Program.{Program}
use Rattle.def_script.specs.Script.{creations}
use Rattle.def_script.specs.Exports.{Exports, exports_of}
use Rattle.def_session.specs.State.{absent_session}
use Rattle.def_run.specs.Run.{HistoryItem, events, moves}
use Rattle.def_run.specs.View.{is_own}
use Rattle.def_run.specs.Listing.{messages, messages_from}
use Rattle.def_run.proofs.Replay.{moves_bounded}
use Rattle.def_formats.specs.MessageMoves.{message_count_after, moves_by, moves_of_messages}
use Rattle.def_formats.proofs.MessageMoves.{moves_length, counts_grow}
use Rattle.tn_term.specs.Views.{alive_of}
use Rattle.tn_trace.specs.Tracks.{tracks_from}
use Rattle.tn_trace.specs.Slots.{EachPair, IsTracked}
use Rattle.tn_trace.specs.Recorders.{HasRecorded}
use Rattle.tn_trace.specs.Follows.{AddsEach, AddsFrom}
use Rattle.tn_trace.specs.declared.slot.Slot.{Slot}
use Rattle.tn_trace.specs.declared.recorder.Recorder.{Recorder}
use Rattle.tn_message_moves.specs.Tallies.{CountsMessages, slot_counts, with_move, each_with_move, tallies_seen}
use Rattle.tn_message_moves.specs.Counters.{numbered_by, HaveNumbers, AddsMoveNumber}
use Rattle.tn_message_moves.specs.declared.tally.Tally.{Tally}
use Rattle.tn_message_moves.specs.declared.counter.MoveCounter.{MoveCounter}
use Rattle.tn_message_moves.proofs.Numbers.{no_numbers, each_of, moves_by-same}

-- the messages that each session has
slots_count : {A : Type 0} (o : Exports) (living : Alive) (items : List HistoryItem) (n : ℕ) (ss : List (Name × Name)) (slots : List (Slot A Tally)) → EachPair (IsTracked CountsMessages o living) (tracks_from o items n ss) slots
    → slot_counts slots ≡ map (λ s. length (messages_from o (absent_session o) (filter (is_own s.0) items))) ss
slots_count o living items n [] [] h = refl
slots_count o living items n [] (slot ∷ slots) h = absurd h
slots_count o living items n (s ∷ ss) [] h = absurd h
slots_count o living items n (s ∷ ss) (slot ∷ slots) h = ap₂ (λ k l. k ∷ l) h.0.kept (slots_count o living items (suc n) ss slots h.1)

pub recorder_counts : {A : Type 0} (r : Recorder A Tally) (p : Program) (picks : List ℕ) → HasRecorded CountsMessages r p picks → slot_counts r.slots.items ≡ map (λ s. length (messages s.0 p picks)) (creations p.commands)
recorder_counts r p picks h = slots_count (exports_of p) (alive_of r.living) (events p picks) 1 (creations p.commands) r.slots.items h.sessions

-- one session after one more pick
one_more_pick : (s : Name) (p : Program) (picks : List ℕ) (pick : ℕ)
    → with_move (suc (length picks)) (length (messages s p (picks ++ pick ∷ []))) (moves_by (message_count_after s p picks) (length picks)) ≡ moves_by (message_count_after s p (picks ++ pick ∷ [])) (length (picks ++ pick ∷ []))
one_more_pick s p picks pick =
    let all : List ℕ = picks ++ pick ∷ [] in
    let n : ℕ = length picks in
    let size : length all ≡ suc n = length-append picks (pick ∷ []) ∙ omega arith in
    let same : (k : ℕ) → k ≤ n → message_count_after s p picks k ≡ message_count_after s p all k = λ k le. ap (λ ps. length (messages s p ps)) (sym (take-append-le k picks (pick ∷ []) le)) in
    let before : moves_by (message_count_after s p picks) n ≡ moves_by (message_count_after s p all) n = moves_by-same (message_count_after s p picks) (message_count_after s p all) n same in
    let whole : message_count_after s p all (suc n) ≡ length (messages s p all) = ap (λ ps. length (messages s p ps)) (take_all (suc n) all (omega (arith, size))) in
    let counted : length (moves_by (message_count_after s p picks) n) ≡ message_count_after s p all n = moves_length (message_count_after s p picks) n refl (counts_grow s p picks) ∙ same n (omega arith) in
    ap₂ (λ l k. l ++ replicate k (suc n)) before (ap₂ ◌-◌ (sym whole) counted) ∙ ap (moves_by (message_count_after s p all)) (sym size)

-- the lists after one more pick
pub next_numbered : {A : Type 0} (r : Recorder A Tally) (p : Program) (picks : List ℕ) (pick number : ℕ) → HasRecorded CountsMessages r p (picks ++ pick ∷ []) → number ≡ suc (length picks)
    → each_with_move number (slot_counts r.slots.items) (numbered_by p picks) ≡ numbered_by p (picks ++ pick ∷ [])
next_numbered r p picks pick number h is =
    ap₂ (λ n cs. each_with_move n cs (numbered_by p picks)) is (recorder_counts r p (picks ++ pick ∷ []) h)
    ∙ each_of (suc (length picks)) (λ s. length (messages s.0 p (picks ++ pick ∷ []))) (λ s. moves_by (message_count_after s.0 p picks) (length picks)) (creations p.commands)
    ∙ mapped (creations p.commands)
  where
    mapped : (ss : List (Name × Name)) → map (λ s. with_move (suc (length picks)) (length (messages s.0 p (picks ++ pick ∷ []))) (moves_by (message_count_after s.0 p picks) (length picks))) ss ≡ map (λ s. moves_by (message_count_after s.0 p (picks ++ pick ∷ [])) (length (picks ++ pick ∷ []))) ss
    mapped [] = refl
    mapped (s ∷ ss) = ap₂ (λ x l. x ∷ l) (one_more_pick s.0 p picks pick) (mapped ss)

-- the lists after all picks
pub all_numbered : {A : Type 0} (p : Program) (picks more : List ℕ) (old new : MoveCounter A) (out out' : Vec (Vec ℕ A) A) → AddsEach AddsMoveNumber p picks more old new out out' → HaveNumbers out p picks → HaveNumbers out' p (picks ++ more)
all_numbered p picks [] old new out out' h are = ap (λ v. map (λ m. m.items) v.items) h.1 ∙ are ∙ ap (numbered_by p) (sym (append-nil picks))
all_numbered p picks (pick ∷ more) old new out out' h are =
    all_numbered p (picks ++ pick ∷ []) more h.0 new h.1 out' h.3 (h.2 are) ∙ ap (numbered_by p) (append_assoc picks (pick ∷ []) more)

-- before any pick there are none
none_each : {A : Type 0} (o : Exports) (living : Alive) (items : List HistoryItem) (n : ℕ) (ss : List (Name × Name)) (slots : List (Slot A Tally)) → EachPair (IsTracked CountsMessages o living) (tracks_from o items n ss) slots
    → map (λ s. no_numbers) slots ≡ map (λ s. no_numbers) ss
none_each o living items n [] [] h = refl
none_each o living items n [] (slot ∷ slots) h = absurd h
none_each o living items n (s ∷ ss) [] h = absurd h
none_each o living items n (s ∷ ss) (slot ∷ slots) h = ap (λ l. no_numbers ∷ l) (none_each o living items (suc n) ss slots h.1)

pub none_numbered : {A : Type 0} (r : Recorder A Tally) (p : Program) → HasRecorded CountsMessages r p [] → map (λ s. no_numbers) r.slots.items ≡ numbered_by p []
none_numbered r p h = none_each (exports_of p) (alive_of r.living) (events p []) 1 (creations p.commands) r.slots.items h.sessions

-- what was added by the picks of a run that move
pub run_numbered : {A : Type 0} (p : Program) (picks : List ℕ) (old new : MoveCounter A) (out out' : Vec (Vec ℕ A) A) → AddsFrom AddsMoveNumber p (take 65536 (moves p [])) (take 65536 (moves p ([] ++ picks))) old new out out'
    → HaveNumbers out p [] → tallies_seen out'.items ≡ moves_of_messages p picks
run_numbered p picks old new out out' h none =
    let start : take 65536 (moves p []) ≡ [] = take_all 65536 (moves p []) (moves_bounded p []) in
    let whole : take 65536 (moves p picks) ≡ moves p picks = take_all 65536 (moves p picks) (moves_bounded p picks) in
    let longer : take 65536 (moves p picks) ≡ h.more = h.longer ∙ ap (λ l. l ++ h.more) start in
    let added : AddsEach AddsMoveNumber p [] h.more old new out out' = subst (λ first. AddsEach AddsMoveNumber p first h.more old new out out') start h.added in
    all_numbered p [] h.more old new out out' added none ∙ ap (numbered_by p) (sym longer ∙ whole)
