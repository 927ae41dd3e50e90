-- Journals that grow by one entry, and what a seat has made in them.
use Rattle.std.proofs.Common.{◌≡◌, ℕ, zero, suc, ◌+◌, ◌<◌, ◌≤◌, Bool, true, false, cond, nat_eq, List, [], ◌∷◌, ◌++◌, length, get_or, set, replicate, Option, Some, None, refl, ap, sym, ◌∙◌, subst, arith, length-append, ne_eqb, ◌≢◌, inl, inr}
use Rattle.std.proofs.lemmas.Bool.{cases_eq}
use Rattle.std.proofs.lemmas.List.{get_or-set_same, get_or-set_other}
use Rattle.std.proofs.lemmas.List.Sums.{sum_by-append}
use Rattle.std.proofs.lemmas.Bool.Decides.{Decides-eqb}
use Rattle.tn_live.specs.declared.entry.Entry.{Entry}
use Rattle.tn_live.specs.Journal.{entry, picks_of, made_by, last_from, last_by}
use Rattle.std.specs.Prelude.{slice_get}
use Rattle.tn_live.specs.States.{HasPrefix, SeatState, seat_of, AreFresh}
use Rattle.tn_live.specs.ClosedJournals.{LacksSeat, AreHanded}

pub picks-append : (xs ys : List Entry) → picks_of (xs ++ ys) ≡ picks_of xs ++ picks_of ys
picks-append [] ys = refl
picks-append (x ∷ xs) ys = ap (λ w. x.pick ∷ w) (picks-append xs ys)

pub picks-length : (xs : List Entry) → length (picks_of xs) ≡ length xs
picks-length [] = refl
picks-length (x ∷ xs) = ap (λ n. suc n) (picks-length xs)

pub made-append : (seat : ℕ) (xs ys : List Entry) → made_by seat (xs ++ ys) ≡ made_by seat xs + made_by seat ys
made-append seat xs ys = sum_by-append _ xs ys

same-cond : (n : ℕ) {A : Type 0} (x y : A) → cond (nat_eq n n) x y ≡ x
same-cond n x y = ap (λ b. cond b x y) ((Decides-eqb n n).1 refl)

pub made_one : (seat n k : ℕ) → made_by seat (entry n k ∷ []) ≡ cond (nat_eq n seat) 1 0
made_one seat n k = omega arith

pub made_own : (n k : ℕ) (xs : List Entry) → made_by n (xs ++ entry n k ∷ []) ≡ suc (made_by n xs)
made_own n k xs = made-append n xs (entry n k ∷ []) ∙ ap (made_by n xs +◌) (made_one n n k ∙ same-cond n {A = ℕ} 1 0) ∙ omega arith

pub made_other : (seat n k : ℕ) (xs : List Entry) → n ≢ seat → made_by seat (xs ++ entry n k ∷ []) ≡ made_by seat xs
made_other seat n k xs ne = made-append seat xs (entry n k ∷ []) ∙ ap (made_by seat xs +◌) (made_one seat n k ∙ ap (λ b. cond b 1 0) (ne_eqb n seat ne)) ∙ omega arith

made_cons : (seat : ℕ) (x : Entry) (xs : List Entry) → made_by seat (x ∷ xs) ≡ cond (nat_eq x.seat seat) 1 0 + made_by seat xs
made_cons seat x xs = made-append seat (x ∷ []) xs ∙ omega arith

at_most_one : (b : Bool) → cond b 1 0 ≤ 1
at_most_one true = omega arith
at_most_one false = omega arith

-- a seat made at most all entries
pub made_bounded : (seat : ℕ) (xs : List Entry) → made_by seat xs ≤ length xs
made_bounded seat [] = omega arith
made_bounded seat (x ∷ xs) = omega (arith, made_cons seat x xs, at_most_one (nat_eq x.seat seat), made_bounded seat xs)

pub last-append : (seat n : ℕ) (xs ys : List Entry) (found : Option ℕ) → last_from seat n (xs ++ ys) found ≡ last_from seat (n + length xs) ys (last_from seat n xs found)
last-append seat n [] ys found = ap (λ m. last_from seat m ys found) (omega arith)
last-append seat n (x ∷ xs) ys found =
    let next : Option ℕ = cond (nat_eq x.seat seat) (Some n) found in
    last-append seat (suc n) xs ys next ∙ ap (λ m. last_from seat m ys (last_from seat (suc n) xs next)) (omega arith)

mine-none : (b : Bool) (n k : ℕ) (found : Option ℕ) → cond b 1 0 + k ≡ 0 → cond b (Some n) found ≡ found
mine-none true n k found none = absurd (omega arith)
mine-none false n k found none = refl

rest-none : (b : Bool) (k : ℕ) → cond b 1 0 + k ≡ 0 → k ≡ 0
rest-none true k none = omega arith
rest-none false k none = omega arith

last-none : (seat n : ℕ) (xs : List Entry) (found : Option ℕ) → made_by seat xs ≡ 0 → last_from seat n xs found ≡ found
last-none seat n [] found none = refl
last-none seat n (x ∷ xs) found none =
    let h : cond (nat_eq x.seat seat) 1 0 + made_by seat xs ≡ 0 = sym (made_cons seat x xs) ∙ none in
    last-none seat (suc n) xs _ (rest-none (nat_eq x.seat seat) (made_by seat xs) h) ∙ mine-none (nat_eq x.seat seat) n (made_by seat xs) found h

-- entries of other seats change neither the count nor the latest entry
pub made_over : (n : ℕ) (entries seen : List Entry) → HasPrefix entries n seen → made_by n entries ≡ made_by n seen
made_over n entries seen b = ap (made_by n) b.1 ∙ made-append n seen b.0 ∙ ap (made_by n seen +◌) b.2 ∙ omega arith

pub last_over : (n : ℕ) (entries seen : List Entry) → HasPrefix entries n seen → last_by n entries ≡ last_by n seen
last_over n entries seen b = ap (last_by n) b.1 ∙ last-append n 0 seen b.0 None ∙ last-none n (0 + length seen) b.0 (last_by n seen) b.2

-- an own entry is the latest
pub last_own : (n k : ℕ) (xs : List Entry) → last_by n (xs ++ entry n k ∷ []) ≡ Some (length xs)
last_own n k xs =
    last-append n 0 xs (entry n k ∷ []) None ∙ same-cond n (Some (0 + length xs)) (last_by n xs) ∙ ap Some (omega arith)

-- a beginning with as many entries of the seat as the whole has no later one
pub begins_where : (entries seen rest : List Entry) (number made : ℕ) → entries ≡ seen ++ rest → made ≡ made_by number seen → made_by number entries ≡ made → HasPrefix entries number seen
begins_where entries seen rest number made is counted same = (rest, is, omega (arith, made-append number seen rest, ap (made_by number) is))

pub begins_counts : (entries seen : List Entry) (number made : ℕ) → made ≡ made_by number seen → HasPrefix entries number seen → made_by number entries ≡ made
begins_counts entries seen number made counted b = made_over number entries seen b ∙ sym counted

pub begins_length : (entries seen : List Entry) (number : ℕ) → HasPrefix entries number seen → length seen ≤ length entries
begins_length entries seen number b = omega (arith, ap length b.1, length-append seen b.0)

-- one more entry of a seat is counted
pub counts_more : (counts : List ℕ) (entries : List Entry) (n k m : ℕ) → n < length counts → ((seat d : ℕ) → seat < 16 → get_or counts seat d ≡ made_by seat entries) → m ≡ made_by n entries
    → (seat d : ℕ) → seat < 16 → get_or (set counts n (m + 1)) seat d ≡ made_by seat (entries ++ entry n k ∷ [])
counts_more counts entries n k m size counted is seat d below =
    elim (cases_eq n seat) [
      | inl same ↦
          subst (λ j. get_or (set counts n (m + 1)) j d ≡ made_by j (entries ++ entry n k ∷ [])) same
          (get_or-set_same counts n (m + 1) d size ∙ ap (λ j. j + 1) is ∙ omega arith ∙ sym (made_own n k entries))
      | inr other ↦
          get_or-set_other counts n seat (m + 1) d (λ e. other (sym e)) ∙ counted seat d below ∙ sym (made_other seat n k entries other)
    ]

-- no seat made an entry of an empty journal
zeros-at : (n k d : ℕ) → k < n → get_or (replicate n 0) k d ≡ 0
zeros-at zero k d below = absurd (omega arith)
zeros-at (suc n) zero d below = refl
zeros-at (suc n) (suc k) d below = zeros-at n k d (omega arith)

pub counts_none : (entries : List Entry) → entries ≡ [] → (seat d : ℕ) → seat < 16 → get_or (replicate 16 0) seat d ≡ made_by seat entries
counts_none entries empty seat d below = zeros-at 16 seat d below ∙ sym (ap (made_by seat) empty)

-- ---- lists of seats

pub handed_more : (seats : List SeatState) (k : ℕ) → AreHanded seats k → (LacksSeat seats k → ⊥) → AreHanded seats (k + 1)
handed_more seats k handed here n below lacks =
    elim (cases_eq n k) [
      | inl same ↦ here (subst (LacksSeat seats) same lacks)
      | inr other ↦ handed n (omega arith) lacks
    ]

slice_get-first : {A : Type 0} (xs ys : List A) (k : ℕ) → k < length xs → slice_get (xs ++ ys) k ≡ slice_get xs k
slice_get-first [] ys k below = absurd (omega arith)
slice_get-first (x ∷ xs) ys zero below = refl
slice_get-first (x ∷ xs) ys (suc k) below = slice_get-first xs ys k (omega arith)

slice_get-last : {A : Type 0} (xs : List A) (y : A) (k : ℕ) → k ≡ length xs → slice_get (xs ++ y ∷ []) k ≡ Some y
slice_get-last [] y zero at = refl
slice_get-last [] y (suc k) at = absurd (omega arith)
slice_get-last (x ∷ xs) y zero at = absurd (omega arith)
slice_get-last (x ∷ xs) y (suc k) at = slice_get-last xs y k (omega arith)

pub fresh_more : (seats : List SeatState) (k : ℕ) → AreFresh k seats → AreFresh (k + 1) (seats ++ seat_of k [] ∷ [])
fresh_more seats k fresh = record {
  all = length-append seats (seat_of k [] ∷ []) ∙ ap (λ n. n + 1) fresh.all;
  each = λ n below.
      elim (cases_eq n k) [
        | inl same ↦ slice_get-last seats (seat_of k []) n (same ∙ sym fresh.all) ∙ ap (λ j. Some (seat_of j [])) (sym same)
        | inr other ↦
            let lower : n < k = omega arith in
            slice_get-first seats (seat_of k [] ∷ []) n (omega (arith, fresh.all)) ∙ fresh.each n lower
      ];
}
