-- Runs that keep text, with the bytes of their listings.
use Rattle.std.proofs.Common.{◌≡◌, ◌∙◌, Bool, true, false, IsTrue, ◌↔◌, ℕ, ◌+◌, ◌-◌, min, ◌<◌, ◌≤◌, ◌⊎◌, List, [], ◌++◌, length, map, take, get_or, refl, sym, ap, subst, inl, inr, arith}
use Rattle.std.proofs.lemmas.List.{take_all}
use Rattle.std.proofs.lemmas.List.Sums.{sum_by-cons, sum_by_more, sum_by-take-le}
use Rattle.std.specs.Prelude.{◌∷◌, sum_by}
use Rattle.def_script.specs.Program.{Program}
use Rattle.def_script.specs.Exports.{exports_of}
use Rattle.def_script.specs.Script.{creations}
use Rattle.def_run.specs.Run.{events, moves}
use Rattle.def_run.specs.Round.{pass, round}
use Rattle.def_run.specs.Laws.{repeat_picks}
use Rattle.def_run.proofs.Replay.{moves_bounded}
use Rattle.def_run.proofs.Rounds.{round_is_in_order}
use Rattle.tn_term.specs.Views.{alive_of}
use Rattle.tn_trace.specs.Items.{AreTexts}
use Rattle.tn_trace.specs.Recorders.{HasRecorded}
use Rattle.tn_trace.specs.Follows.{Follows}
use Rattle.tn_trace.specs.Bounds.{HasMoreBytes}
use Rattle.tn_trace.specs.Transcripts.{bytes_in_all, listing_bytes, slot_lines}
use Rattle.tn_trace.specs.Within.{EndsWithin}
use Rattle.tn_trace.specs.declared.bound.MostBytes.{MostBytes}
use Rattle.tn_trace.specs.declared.run.Extent.TheVariants.{All, TooMuch}
use Rattle.tn_trace.specs.declared.slot.Slot.{Slot}
use Rattle.tn_trace.specs.declared.sinks.Lines.{Lines}
use Rattle.tn_trace.specs.declared.run.Run.{Run}
use Rattle.tn_trace.specs.declared.recorder.Recorder.{Recorder}
use Rattle.tn_trace.proofs.TranscriptLemmas.{lines_there}
use Rattle.tn_trace.proofs.ListingBytes.{bytes_again, bytes_at_start, bytes_grow, longer_on}
use Rattle.tn_trace.proofs.Within.{all_follow}
use Rattle.std.proofs.lemmas.Bool.{cases_lt, false≢true}

-- ---- the lines of slots

abbrev pub slot_bytes : {A : Type 0} → Slot A (Lines A) → ℕ
slot_bytes s = length s.kept.text.items

pub slots_counted : {A : Type 0} (slots : List (Slot A (Lines A))) → bytes_in_all (slot_lines slots) ≡ sum_by slot_bytes slots
slots_counted [] = refl
slots_counted (s ∷ slots) =
    sum_by-cons (λ n. n) (slot_bytes s) (map length (slot_lines slots)) ∙ ap (λ n. slot_bytes s + n) (slots_counted slots) ∙ sym (sum_by-cons slot_bytes s slots)

-- one more slot is counted, where its lines have so many bytes
pub counted_more : {A : Type 0} (slots : List (Slot A (Lines A))) (i bytes most room : ℕ) (d : Slot A (Lines A)) → i < length slots → bytes ≡ slot_bytes (get_or slots i d)
    → sum_by slot_bytes (take i slots) + room ≡ most → bytes ≤ room → sum_by slot_bytes (take (i + 1) slots) + (room - bytes) ≡ most
counted_more slots i bytes most room d below counted so_far fits = omega (arith, counted, so_far, fits, sum_by_more slot_bytes slots i d below)

-- and where they have more than there is room for, all lines have too many
pub too_many : {A : Type 0} (slots : List (Slot A (Lines A))) (i bytes most room : ℕ) (d : Slot A (Lines A)) → i < length slots → bytes ≡ slot_bytes (get_or slots i d)
    → sum_by slot_bytes (take i slots) + room ≡ most → room < bytes → most < bytes_in_all (slot_lines slots)
too_many slots i bytes most room d below counted so_far past =
    omega (arith, counted, so_far, past, sum_by_more slot_bytes slots i d below, sum_by-take-le slot_bytes slots (i + 1), slots_counted slots)

-- whether they have too many
pub longer_or_not : (b : Bool) (most bytes : ℕ) → (b ≡ true → most < bytes) → (b ≡ false → bytes ≤ most) → IsTrue b ↔ (most < bytes)
longer_or_not true most bytes longer within = (λ h. longer refl, λ more. refl)
longer_or_not false most bytes longer within = (λ h. absurd (false≢true h), λ more. let fits = within refl in absurd (omega (arith, more, fits)))

-- ---- of a run

-- the lines that a recorder has
pub recorded_bytes : {A : Type 0} (p : Program) (picks : List ℕ) (r : Recorder A (Lines A)) → HasRecorded AreTexts r p picks → bytes_in_all (slot_lines r.slots.items) ≡ listing_bytes p picks
recorded_bytes p picks r recorded = ap bytes_in_all (lines_there (exports_of p) (alive_of r.living) (events p picks) 1 (creations p.commands) r.slots.items recorded.sessions)

-- before any pick there are none
pub few_at_start : {A : Type 0} (p : Program) (bound : MostBytes) (r : Recorder A (Lines A)) → HasRecorded AreTexts r p [] → HasMoreBytes bound r → ⊥
few_at_start p bound r recorded more = omega (arith, more, recorded_bytes p [] r recorded, bytes_at_start p)

pub at_most : (a b : ℕ) → (a < b → ⊥) → b ≤ a
at_most a b few = go (cases_lt a b)
  where
    go : (a < b) ⊎ (b ≤ a) → b ≤ a
    go (inl more) = absurd (few more)
    go (inr fits) = fits

-- ---- all picks

module _ {A G : Type 0} (Adds : Program → List ℕ → ℕ → Recorder A (Lines A) → Recorder A (Lines A) → G → G → Type 0) (p : Program) (limit : ℕ) (bound : MostBytes) (tried : List ℕ) (old new : Run A (Recorder A (Lines A))) (out out' : G) where
  -- the observer has no more than it may have
  pub all_fit : EndsWithin (HasRecorded AreTexts) Adds (HasMoreBytes bound) p limit [] tried old new out out' All → listing_bytes p (take limit (moves p tried)) ≤ bound.bytes
  all_fit ends =
      let run : Follows (HasRecorded AreTexts) p limit tried new = all_follow (HasRecorded AreTexts) Adds (HasMoreBytes bound) p limit [] tried old new out out' ends in
      omega (arith, at_most bound.bytes (bytes_in_all (slot_lines new.observer.slots.items)) ends.bounded, recorded_bytes p (take limit (moves p tried)) new.observer run.seen)

  -- or more
  pub all_too_long : EndsWithin (HasRecorded AreTexts) Adds (HasMoreBytes bound) p limit [] tried old new out out' TooMuch → bound.bytes < listing_bytes p (take limit (moves p tried))
  all_too_long ends =
      let here : bound.bytes < listing_bytes p (take limit (moves p ends.front)) = omega (arith, ends.bounded, recorded_bytes p (take limit (moves p ends.front)) new.observer ends.follows.seen) in
      subst (λ xs. bound.bytes < listing_bytes p (take limit (moves p xs))) (sym ends.taken.1) (longer_on p limit bound.bytes ends.front ends.taken.0 here)

-- no limit below the most picks that move
pub whole_bytes : (p : Program) (picks : List ℕ) → listing_bytes p (take 65536 (moves p picks)) ≡ listing_bytes p picks
whole_bytes p picks = ap (listing_bytes p) (take_all 65536 (moves p picks) (moves_bounded p picks)) ∙ bytes_again p picks

-- so many passes are a round
pub round_journal : (p : Program) (limit room : ℕ) (once : List ℕ) → room ≡ min limit 65536 → once ≡ pass → take (min limit 65536) (moves p (repeat_picks once (room + 1))) ≡ round p limit
round_journal p limit room once is are =
    ap (λ xs. take (min limit 65536) (moves p (repeat_picks xs (room + 1)))) are ∙ ap (λ r. take (min limit 65536) (moves p (repeat_picks pass (r + 1)))) is ∙ sym (round_is_in_order p limit)

-- where the first of some picks have too many bytes
pub longer_all : (p : Program) (most : ℕ) (picks front rest : List ℕ) → picks ≡ front ++ rest → most < listing_bytes p front → most < listing_bytes p picks
longer_all p most picks front rest is long =
    let grown : listing_bytes p front ≤ listing_bytes p picks = subst (λ xs. listing_bytes p front ≤ listing_bytes p xs) (sym is) (bytes_grow p front rest) in
    omega (arith, long, grown)
