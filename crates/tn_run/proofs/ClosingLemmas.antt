-- The journal that the seats of a closed lock made.
use Rattle.std.proofs.Common.{◌≡◌, ◌∙◌, ℕ, zero, suc, ◌<◌, ◌≤◌, List, [], ◌∷◌, ◌++◌, length, take, get_or, All, inl, inr, refl, sym, ap, subst, append-nil, length-append, arith}
use Rattle.std.specs.Prelude.{slice_index_or, Result, Ok, Err, IfOk}
use Rattle.std.proofs.lemmas.List.{length-map}
use Rattle.std.proofs.lemmas.List.Elements.{All-append, All-get_or, All-from_get_or}
use Rattle.def_script.specs.Program.{Program}
use Rattle.def_run.specs.Run.{JOURNAL, moves}
use Rattle.def_run.specs.Round.{pass}
use Rattle.def_run.specs.Laws.{IsIdleAfter}
use Rattle.def_run.proofs.Replay.{moves_bounded}
use Rattle.def_run.proofs.Picks.{full_journal_stays}
use Rattle.tn_live.specs.declared.entry.Entry.{Entry}
use Rattle.tn_live.specs.Journal.{picks_of}
use Rattle.tn_live.specs.States.{SeatState, HasPrefix, seat_of, IsJournal}
use Rattle.tn_live.specs.ClosedJournals.{EndsJournal, made_in_all}
use Rattle.tn_moves.specs.Schedules.{IsAtRest}
use Rattle.tn_run.specs.RestingSeats.{IdlesAt, SeatIsStill, HasSettled, IsSettled, IsClosedOutput, RunsToRest}

pub if_ok_of : {T E : Type 0} (P Q : T → Type 0) (r : Result T E) → ((x : T) → P x → Q x) → IfOk r P → IfOk r Q
if_ok_of P Q (Ok x) f h = f x h
if_ok_of P Q (Err e) f h = tt

-- ---- a seat that sees nothing move

front : {X : Type 0} (xs ys : List X) → take (length xs) (xs ++ ys) ≡ xs
front [] ys = refl
front (x ∷ xs) ys = ap (λ l. x ∷ l) (front xs ys)

no_more : {X : Type 0} (xs zs : List X) → length (xs ++ zs) ≤ length xs → zs ≡ []
no_more xs [] h = refl
no_more xs (z ∷ zs) h = absurd (omega (arith, length-append xs (z ∷ zs)))

-- the first of a list and what follows it
pub first_again : {X : Type 0} (xs ys : List X) (n : ℕ) → n ≡ length xs → take n (xs ++ ys) ≡ xs
first_again xs ys n e = ap (λ k. take k (xs ++ ys)) e ∙ front xs ys

-- what begins a list of the same length is the list
pub same_length : {X : Type 0} (xs ys zs : List X) → ys ≡ xs ++ zs → length ys ≤ length xs → ys ≡ xs
same_length xs ys zs e h =
    let none : zs ≡ [] = no_more xs zs (subst (λ l. length l ≤ length xs) e h) in
    e ∙ ap (λ l. xs ++ l) none ∙ append-nil xs

at_zero : (P : ℕ → Type 0) (x : ℕ) → P x → (i : ℕ) → i < 1 → P (get_or (x ∷ []) i 0)
at_zero P x h zero lt = h
at_zero P x h (suc i) lt = absurd (omega arith)

one_of : (P : ℕ → Type 0) (x : ℕ) → P x → All P (x ∷ [])
one_of P x h = All-from_get_or P (x ∷ []) 0 (at_zero P x h)

-- the first pick of a pass was idle
pub first_still : (p : Program) (pick : ℕ) (s t : SeatState) (front : ℕ) → IdlesAt p pick s t front → SeatIsStill p front (pick ∷ []) t
first_still p pick s t front i = record { length_seen = sym i.length_told; idle = one_of (IsIdleAfter p (picks_of t.seen)) pick i.idle }

-- and one more, after a journal of the same length
pub still_more : (p : Program) (front : ℕ) (tried : List ℕ) (pick : ℕ) (s t : SeatState) (now : ℕ) → SeatIsStill p front tried s → IdlesAt p pick s t now → now ≡ front → SeatIsStill p front (tried ++ pick ∷ []) t
still_more p front tried pick s t now was i same =
    let size : length t.seen ≡ length s.seen = sym i.length_told ∙ same ∙ sym was.length_seen in
    let seen : t.seen ≡ s.seen = same_length s.seen t.seen i.follows.between i.follows.after (omega (arith, size)) in
    let before : All (IsIdleAfter p (picks_of t.seen)) tried = subst (λ es. All (IsIdleAfter p (picks_of es)) tried) (sym seen) was.idle in
    record {
      length_seen = sym i.length_told ∙ same;
      idle = All-append (IsIdleAfter p (picks_of t.seen)) tried (pick ∷ []) before (one_of (IsIdleAfter p (picks_of t.seen)) pick i.idle);
    }

-- ---- the closed journal

-- with a full journal no pick moves
full_rests : (p : Program) (picks : List ℕ) → moves p picks ≡ picks → length picks ≡ JOURNAL → All (IsIdleAfter p picks) pass
full_rests p picks moved full =
    let size : length (moves p picks) ≡ JOURNAL = ap length moved ∙ full in
    All-from_get_or (IsIdleAfter p picks) pass 0 (λ i lt. full_journal_stays p picks (get_or pass i 0) size)

rests_by : (p : Program) (seats : List SeatState) (s : SeatState) (entries rest : List Entry) → HasSettled p seats s → entries ≡ s.seen ++ rest → length entries ≡ made_in_all seats → IsJournal p entries → All (IsIdleAfter p (picks_of entries)) pass
rests_by p seats s entries rest (inl still) begun all_made moved =
    let same : entries ≡ s.seen = same_length s.seen entries rest begun (omega (arith, all_made, still.length_seen)) in
    subst (λ es. All (IsIdleAfter p (picks_of es)) pass) (sym same) still.idle
rests_by p seats s entries rest (inr full) begun all_made moved =
    let most : length (moves p (picks_of entries)) ≤ 65536 = moves_bounded p (picks_of entries) in
    let size : length (picks_of entries) ≡ length entries = length-map entries (λ e. e.pick) in
    let few : length entries ≤ length s.seen = omega (arith, most, ap length moved, size, full) in
    let same : entries ≡ s.seen = same_length s.seen entries rest begun few in
    full_rests p (picks_of entries) moved (size ∙ ap length same ∙ full)

-- once a seat has settled, nothing of a pass moves after the journal that all seats made
pub at_rest : (p : Program) (seats : List SeatState) (entries : List Entry) → IsSettled p seats → EndsJournal seats entries → IsJournal p entries → IsAtRest p (picks_of entries)
at_rest p seats entries settled ends moved =
    let d : SeatState = seat_of 0 [] in
    let begins : HasPrefix entries (slice_index_or seats 0 d).number (slice_index_or seats 0 d).seen = All-get_or (λ s. HasPrefix entries s.number s.seen) seats 0 d settled.some ends.begins in
    record { moved = moved; rests = rests_by p seats (slice_index_or seats 0 d) entries begins.0 (settled.first d) begins.1 ends.all_made moved }

pub closed_rests : (p : Program) (seats : List SeatState) (entries : List Entry) (picks output : List ℕ) → IsSettled p seats → EndsJournal seats entries → IsClosedOutput p entries picks output → RunsToRest p picks output
closed_rests p seats entries picks output settled ends out =
    let moved : IsJournal p entries = subst (λ ks. moves p ks ≡ ks) out.picked out.moved in
    record { at_rest = subst (IsAtRest p) (sym out.picked) (at_rest p seats entries settled ends moved); written = out.written }
