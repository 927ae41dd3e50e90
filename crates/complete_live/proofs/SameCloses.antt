-- Closes of the same seats answer the same.
use Rattle.std.proofs.Common.{◌≡◌, ◌≢◌, ◌∙◌, ℕ, ◌+◌, ◌<◌, Bool, true, false, cond, nat_eq, List, [], ◌∷◌, ◌++◌, length, length-append, All, Some, Result, Ok, Err, IfOk, refl, sym, ap, subst, arith, ◌⊎◌, inl, inr}
use Rattle.std.proofs.lemmas.Bool.{cases_lt}
use Rattle.std.proofs.lemmas.List.{append-nil, append_assoc}
use Rattle.std.proofs.lemmas.List.Elements.{All-nil, All-cons, All-head, All-tail}
use Rattle.std.proofs.lemmas.List.Sums.{sum_by-cons}
use Rattle.tn_live.specs.declared.entry.Entry.{Entry}
use Rattle.tn_live.specs.declared.live.CloseFault.{CloseFault}
use Rattle.tn_live.specs.declared.live.CloseFault.TheVariants.{Spent, MissingSeat}
use Rattle.tn_live.specs.Journal.{made_by}
use Rattle.tn_live.specs.States.{LiveState, SeatState, HasPrefix}
use Rattle.tn_live.specs.ClosedJournals.{LacksSeat, AreEntered, IsMissing, EndsJournal, Closes}
use Rattle.tn_live.proofs.Journals.{made-append}
use Rattle.complete_live.specs.Alike.{CloseAlike, missing_seen}

-- ---- the missing seat

least_first : (seats : List SeatState) (count n m : ℕ) → IsMissing seats count n → IsMissing seats count m → n < m → ⊥
least_first seats count n m h i below = i.least n below h.lacks

one_missing : (seats : List SeatState) (count n m : ℕ) → IsMissing seats count n → IsMissing seats count m → n ≡ m
one_missing seats count n m h i =
    elim (cases_lt n m) [
      | inl below ↦ absurd (least_first seats count n m h i below)
      | inr above ↦ elim (cases_lt m n) [
        | inl lower ↦ absurd (least_first seats count m n i h lower)
        | inr upper ↦ omega arith
      ]
    ]

same_missing : {A J K : Type 0} (live : LiveState) (seats : List SeatState) (r : Result (List Entry) (CloseFault A J)) (q : Result (List Entry) (CloseFault A K)) → Closes live seats r → Closes live seats q → missing_seen r ≡ missing_seen q
same_missing live seats (Ok es) (Ok fs) h i = refl
same_missing live seats (Ok es) (Err Spent) h i = refl
same_missing live seats (Ok es) (Err (MissingSeat m back handed)) h i = absurd (h.0 m i.2.below i.2.lacks)
same_missing live seats (Err Spent) (Ok fs) h i = refl
same_missing live seats (Err Spent) (Err Spent) h i = refl
same_missing live seats (Err Spent) (Err (MissingSeat m back handed)) h i = absurd (h m i.2.below i.2.lacks)
same_missing live seats (Err (MissingSeat m back handed)) (Ok fs) h i = absurd (i.0 m h.2.below h.2.lacks)
same_missing live seats (Err (MissingSeat m back handed)) (Err Spent) h i = absurd (i m h.2.below h.2.lacks)
same_missing live seats (Err (MissingSeat m back handed)) (Err (MissingSeat n back' handed')) h i =
    let number = one_missing seats live.seats m n h.2 i.2 in
    let lives = h.0 ∙ sym i.0 in
    let all = h.1 ∙ sym i.1 in
    λ j. Some (number j, lives j, all j)

-- ---- the closed journal

made_cons : (seat : ℕ) (e : Entry) (es : List Entry) → made_by seat (e ∷ es) ≡ cond (nat_eq e.seat seat) 1 0 + made_by seat es
made_cons seat e es = sum_by-cons (λ (x : Entry). cond (nat_eq x.seat seat) 1 0) e es

unlike : (n m : ℕ) → nat_eq n m ≡ false → m ≢ n
unlike n m e same = grind arith

-- of seats one of which has the number, one is found
found : (P Q : SeatState → Type 0) (n : ℕ) (seats : List SeatState) → (LacksSeat seats n → ⊥) → All P seats → All Q seats → (s : SeatState) × (nat_eq n s.number ≡ true) × P s × Q s
found P Q n [] some h i = absurd (some (All-nil (λ (s : SeatState). s.number ≢ n)))
found P Q n (s ∷ seats) some h i =
    by_test (nat_eq n s.number) refl
    (λ e. found P Q n seats (λ none. some (All-cons (λ (t : SeatState). t.number ≢ n) s seats (unlike n s.number e) none)) (All-tail P s seats h) (All-tail Q s seats i))
  where
    by_test : (b : Bool) → nat_eq n s.number ≡ b → (nat_eq n s.number ≡ false → (t : SeatState) × (nat_eq n t.number ≡ true) × P t × Q t) → (t : SeatState) × (nat_eq n t.number ≡ true) × P t × Q t
    by_test true e later = (s, e, All-head P s seats h, All-head Q s seats i)
    by_test false e later = later e

-- the last of a list
by_last : (es : List Entry) → (es ≡ []) ⊎ ((front : List Entry) × (e : Entry) × (es ≡ front ++ e ∷ []))
by_last [] = inl refl
by_last (x ∷ es) =
    elim (by_last es) [
      | inl none ↦ inr ([], x, ap (λ z. x ∷ z) none)
      | inr some ↦ inr (x ∷ some.0, some.1, ap (λ z. x ∷ z) some.2)
    ]

abbrev last_seat : List Entry → ℕ → ℕ
last_seat [] d = d
last_seat (x ∷ es) d = last_seat es x.seat

last_is : (es : List Entry) (e : Entry) (d : ℕ) → last_seat (es ++ e ∷ []) d ≡ e.seat
last_is [] e d = refl
last_is (x ∷ es) e d = last_is es e x.seat

-- a seat that made the last entry has seen all
seen_all : (es seen front : List Entry) (e : Entry) (n : ℕ) → es ≡ front ++ e ∷ [] → nat_eq e.seat n ≡ true → HasPrefix es n seen → seen ≡ es
seen_all es seen front e n last own b =
    elim (by_last b.0) [
      | inl none ↦ sym (b.1 ∙ ap (λ z. seen ++ z) none ∙ append-nil seen)
      | inr some ↦
          let split : front ++ e ∷ [] ≡ (seen ++ some.0) ++ some.1 ∷ [] = sym last ∙ b.1 ∙ ap (λ z. seen ++ z) some.2 ∙ sym (append_assoc seen some.0 (some.1 ∷ [])) in
          let seat : e.seat ≡ some.1.seat = sym (last_is front e 0) ∙ ap (λ z. last_seat z 0) split ∙ last_is (seen ++ some.0) some.1 0 in
          let mine : nat_eq some.1.seat n ≡ true = ap (λ k. nat_eq k n) (sym seat) ∙ own in
          let more : made_by n b.0 ≡ made_by n some.0 + made_by n (some.1 ∷ []) = ap (made_by n) some.2 ∙ made-append n some.0 (some.1 ∷ []) in
          absurd (omega (arith, b.2, more, made_cons n some.1 [], ap {B = ℕ} (λ c. cond c 1 0) mine))
    ]

-- as long as what it begins with
no_rest : (seen rest es : List Entry) → es ≡ seen ++ rest → length es ≡ length seen → es ≡ seen
no_rest seen [] es is size = is ∙ append-nil seen
no_rest seen (x ∷ rest) es is size = absurd (omega (arith, ap length is, length-append seen (x ∷ rest)))

empty : (es : List Entry) → length es ≡ 0 → es ≡ []
empty [] size = refl
empty (e ∷ es) size = absurd (omega arith)

-- what is known of each is known of the last
of_last : (P : Entry → Type 0) (front : List Entry) (e : Entry) → All P (front ++ e ∷ []) → P e
of_last P [] e h = All-head P e [] h
of_last P (x ∷ front) e h = of_last P front e (All-tail P x (front ++ e ∷ []) h)

-- the seat of the last entry has seen all, and of what it has seen each journal consists
one_journal : (seats : List SeatState) (es fs : List Entry) → EndsJournal seats es → EndsJournal seats fs → es ≡ fs
one_journal seats es fs h i =
    let size : length fs ≡ length es = i.all_made ∙ sym h.all_made in
    elim (by_last es) [
      | inl none ↦ none ∙ sym (empty fs (size ∙ ap length none))
      | inr last ↦
          let some : LacksSeat seats last.1.seat → ⊥ = of_last (λ e. LacksSeat seats e.seat → ⊥) last.0 last.1 (subst (AreEntered seats) last.2 h.entered) in
          let one = found (λ s. HasPrefix es s.number s.seen) (λ s. HasPrefix fs s.number s.seen) last.1.seat seats some h.begins i.begins in
          let whole : one.0.seen ≡ es = seen_all es one.0.seen last.0 last.1 one.0.number last.2 one.1 one.2 in
          let other = one.3 in
          sym whole ∙ sym (no_rest one.0.seen other.0 fs other.1 (size ∙ ap length (sym whole)))
    ]

same_journals : {A J K : Type 0} (live : LiveState) (seats : List SeatState) (r : Result (List Entry) (CloseFault A J)) (q : Result (List Entry) (CloseFault A K)) → Closes live seats r → Closes live seats q
    → IfOk r (λ es. IfOk q (λ fs. es ≡ fs))
same_journals live seats (Ok es) (Ok fs) h i = one_journal seats es fs h.1 i.1
same_journals live seats (Ok es) (Err fault) h i = tt
same_journals live seats (Err fault) q h i = tt

-- of locks and seats that are the same
pub same_closes : {A J K : Type 0} (live live' : LiveState) (seats seats' : List SeatState) (r : Result (List Entry) (CloseFault A J)) (q : Result (List Entry) (CloseFault A K))
    → live ≡ live' → seats ≡ seats' → Closes live seats r → Closes live' seats' q → CloseAlike r q
same_closes live live' seats seats' r q locks all h i' =
    let i : Closes live seats q = subst (λ z. Closes z seats q) (sym locks) (subst (λ z. Closes live' z q) (sym all) i') in
    record { missing = same_missing live seats r q h i; journals = same_journals live seats r q h i }
