-- Turns of one book answer the same.
use Rattle.std.proofs.Common.{◌≡◌, ◌∙◌, ℕ, suc, ◌<◌, ◌≤◌, Bool, true, false, if◌then◌else◌, List, [], ◌∷◌, ◌++◌, length, length-append, None, IfSome, Result, Ok, Err, IsErrOf, refl, sym, ap, subst, arith}
use Rattle.std.proofs.lemmas.List.{append-nil, append_cancel_right, length_push}
use Rattle.def_script.specs.Program.{Function, Program}
use Rattle.def_run.specs.Run.{JOURNAL, RunState, moves, moves_from, pick_step, start}
use Rattle.def_run.specs.Laws.{IsIdleAfter}
use Rattle.def_run.specs.Listing.{answer}
use Rattle.def_run.proofs.Runs.{idle_moved}
use Rattle.tn_trace.specs.declared.item.StepFault.{StepFault}
use Rattle.tn_trace.specs.declared.item.StepFault.TheVariants.{LimitReached, Spent, OutOfMemory}
use Rattle.tn_live.specs.declared.entry.Entry.{Entry}
use Rattle.tn_live.specs.declared.entry.Receipt.{Receipt}
use Rattle.tn_live.specs.declared.entry.Turn.{Turn}
use Rattle.tn_live.specs.declared.entry.Turn.TheVariants.{Moved, Idle}
use Rattle.tn_live.specs.Journal.{entry, picks_of, made_by}
use Rattle.tn_live.specs.States.{BookState, SeatState, book_of, spent_book, seat_of, MovesAfter}
use Rattle.tn_live.specs.SeatTurns.{IsReceipt, SeatTurns, SeatCounts, BookTurns}
use Rattle.complete_scripts.specs.Agreement.{Agree}
use Rattle.complete_scripts.proofs.Agreements.{agree_by}
use Rattle.complete_runs.proofs.Both.{where_both}
use Rattle.complete_live.specs.Alike.{ReceiptState, TurnState, receipt, front, receipt_seen, turn_state_seen, take_seen, TurnAlike, TakesAlike}

-- ---- a pick doesn't both move and rest

one_at_most : (b : Bool) (pick : ℕ) → length (if b then pick ∷ [] else []) ≤ 1
one_at_most true pick = omega arith
one_at_most false pick = omega arith

no_more_move : (ks : List Function) (s : RunState) (picks : List ℕ) → length (moves_from ks s picks) ≤ length picks
no_more_move ks s [] = omega arith
no_more_move ks s (pick ∷ picks) =
    let t = pick_step ks s pick in
    omega (arith, length-append (if t.moved then pick ∷ [] else []) (moves_from ks t.after picks), one_at_most t.moved pick, no_more_move ks t.after picks)

not_both : (p : Program) (picks : List ℕ) (pick : ℕ) → moves p (picks ++ pick ∷ []) ≡ picks ++ pick ∷ [] → IsIdleAfter p picks pick → ⊥
not_both p picks pick moved idle =
    let e : picks ++ pick ∷ [] ≡ moves p picks = sym moved ∙ idle_moved p picks pick [] idle ∙ ap (moves p) (append-nil picks) in
    omega (arith, length_push picks pick, ap length e, no_more_move p.functions (start p) picks)

-- ---- what a turn says

-- the receipt of a move after these entries
abbrev receipt_after : Program → List Entry → ℕ → ℕ → ReceiptState
receipt_after p es n pick = record { seat = n; number = length es; pick = pick; items = answer p (picks_of es ++ pick ∷ []) (length es) }

receipt_is : {A : Type 0} (p : Program) (es : List Entry) (n pick : ℕ) (r : Receipt A) → IsReceipt p n es pick r → receipt_seen r ≡ receipt_after p es n pick
receipt_is p es n pick r h = λ i. record { seat = h.by i; number = h.at i; pick = h.picked i; items = h.answered i }

abbrev Comes : Program → List Entry → ℕ → ℕ → Result TurnState StepFault → Type 0
Comes p es n pick (Ok (receipt r)) = (length es < JOURNAL) × MovesAfter p es pick × (r ≡ receipt_after p es n pick)
Comes p es n pick (Ok (front k)) = (length es < JOURNAL) × IsIdleAfter p (picks_of es) pick × (k ≡ length es)
Comes p es n pick (Err LimitReached) = length es ≡ JOURNAL
Comes p es n pick (Err Spent) = ⊥
Comes p es n pick (Err OutOfMemory) = ⊥

one_turn : (p : Program) (es : List Entry) (n pick : ℕ) (x y : Result TurnState StepFault) → Comes p es n pick x → Comes p es n pick y → x ≡ y
one_turn p es n pick (Ok (receipt r)) (Ok (receipt q)) h i = ap (λ z. Ok (receipt z)) (h.2 ∙ sym i.2)
one_turn p es n pick (Ok (receipt r)) (Ok (front k)) h i = absurd (not_both p (picks_of es) pick h.1 i.1)
one_turn p es n pick (Ok (front k)) (Ok (receipt r)) h i = absurd (not_both p (picks_of es) pick i.1 h.1)
one_turn p es n pick (Ok (front k)) (Ok (front j)) h i = ap (λ z. Ok (front z)) (h.2 ∙ sym i.2)
one_turn p es n pick (Ok (receipt r)) (Err LimitReached) h i = absurd (omega (arith, h.0, i))
one_turn p es n pick (Ok (front k)) (Err LimitReached) h i = absurd (omega (arith, h.0, i))
one_turn p es n pick (Err LimitReached) (Ok (receipt r)) h i = absurd (omega (arith, h, i.0))
one_turn p es n pick (Err LimitReached) (Ok (front k)) h i = absurd (omega (arith, h, i.0))
one_turn p es n pick (Err LimitReached) (Err LimitReached) h i = refl
one_turn p es n pick (Err Spent) y h i = absurd h
one_turn p es n pick (Err OutOfMemory) y h i = absurd h
one_turn p es n pick (Ok x) (Err Spent) h i = absurd i
one_turn p es n pick (Ok x) (Err OutOfMemory) h i = absurd i
one_turn p es n pick (Err LimitReached) (Err Spent) h i = absurd i
one_turn p es n pick (Err LimitReached) (Err OutOfMemory) h i = absurd i

-- ---- the book and the seat afterwards

abbrev book_after : BookState → ℕ → ℕ → Result TurnState StepFault → BookState
book_after b n pick (Ok (receipt r)) = book_of (b.entries ++ entry n pick ∷ [])
book_after b n pick (Ok (front k)) = b
book_after b n pick (Err fault) = b

abbrev seat_after : BookState → ℕ → ℕ → Result TurnState StepFault → SeatState
seat_after b n pick x = seat_of n (book_after b n pick x).entries

-- what the seat has seen after a move
whole : (b c : BookState) (s t : SeatState) (pick : ℕ) (before : List Entry) → t ≡ seat_of s.number (before ++ entry s.number pick ∷ []) → c ≡ book_of (b.entries ++ entry s.number pick ∷ []) → t.seen ≡ c.entries
    → before ++ entry s.number pick ∷ [] ≡ b.entries ++ entry s.number pick ∷ []
whole b c s t pick before seat book seen = ap (λ z. z.seen) (sym seat) ∙ seen ∙ ap (λ z. z.entries) book

module _ {A : Type 0} (p : Program) (b c : BookState) (s t : SeatState) (pick : ℕ) where
  comes : (r : Result (Turn A) StepFault) → SeatTurns p s pick r t → BookTurns p b s.number pick r c t.seen → IfSome (turn_state_seen r) (Comes p b.entries s.number pick)
  comes (Ok (Moved r)) h k =
      let same : h.0 ≡ b.entries = append_cancel_right h.0 b.entries (entry s.number pick ∷ []) (whole b c s t pick h.0 h.2 k.2 k.3) in
      (k.0, k.1, receipt_is p h.0 s.number pick r h.4 ∙ ap (λ es. receipt_after p es s.number pick) same)
  comes (Ok (Idle n)) h k = (k.0, k.1, h.3 ∙ ap length k.3)
  comes (Err LimitReached) h k = k.0
  comes (Err Spent) h k = k
  comes (Err OutOfMemory) h k = tt

  book_is : (r : Result (Turn A) StepFault) → BookTurns p b s.number pick r c t.seen → IfSome (turn_state_seen r) (λ x. c ≡ book_after b s.number pick x)
  book_is (Ok (Moved r)) k = k.2
  book_is (Ok (Idle n)) k = k.2
  book_is (Err LimitReached) k = k.1
  book_is (Err Spent) k = absurd k
  book_is (Err OutOfMemory) k = tt

  seat_is : (r : Result (Turn A) StepFault) → SeatTurns p s pick r t → BookTurns p b s.number pick r c t.seen → IfSome (turn_state_seen r) (λ x. t ≡ seat_after b s.number pick x)
  seat_is (Ok (Moved r)) h k = h.2 ∙ ap (seat_of s.number) (whole b c s t pick h.0 h.2 k.2 k.3)
  seat_is (Ok (Idle n)) h k = h.1 ∙ ap (seat_of s.number) k.3
  seat_is (Err LimitReached) h k = h.1 ∙ ap (seat_of s.number) k.2
  seat_is (Err Spent) h k = absurd k
  seat_is (Err OutOfMemory) h k = tt

  is_spent : (r : Result (Turn A) StepFault) → BookTurns p b s.number pick r c t.seen → IsErrOf r OutOfMemory → c ≡ spent_book
  is_spent r k e = subst (λ z. BookTurns p b s.number pick z c t.seen) e k

  is_unmoved : (r : Result (Turn A) StepFault) → SeatTurns p s pick r t → IsErrOf r OutOfMemory → t ≡ s
  is_unmoved r h e = subst (λ z. SeatTurns p s pick z t) e h

same_turn : {A : Type 0} (p : Program) (b : BookState) (s : SeatState) (pick : ℕ) (r : Result (Turn A) StepFault) (c : BookState) (t : SeatState) (q : Result (Turn A) StepFault) (d : BookState) (u : SeatState)
    → SeatTurns p s pick r t → BookTurns p b s.number pick r c t.seen → SeatTurns p s pick q u → BookTurns p b s.number pick q d u.seen → TurnAlike s r c t q d u
same_turn p b s pick r c t q d u h k i l =
    let agree : Agree (turn_state_seen r) (turn_state_seen q) = agree_by (Comes p b.entries s.number pick) (one_turn p b.entries s.number pick) _ _ (comes p b c s t pick r h k) (comes p b d s u pick q i l) in
    record {
      answers = agree;
      books =
          where_both (λ x. c ≡ book_after b s.number pick x) (λ x. d ≡ book_after b s.number pick x)
          (λ x y e m n. m ∙ ap (book_after b s.number pick) e ∙ sym n) _ _ agree (book_is p b c s t pick r k) (book_is p b d s u pick q l);
      seats =
          where_both (λ x. t ≡ seat_after b s.number pick x) (λ x. u ≡ seat_after b s.number pick x)
          (λ x y e m n. m ∙ ap (seat_after b s.number pick) e ∙ sym n) _ _ agree (seat_is p b c s t pick r h k) (seat_is p b d s u pick q i l);
      spent = is_spent p b c s t pick r k;
      unmoved = is_unmoved p b c s t pick r h;
    }

-- of books and seats that are the same
pub same_turns : {A : Type 0} (p p' : Program) (b b' : BookState) (s s' : SeatState) (pick : ℕ) (r : Result (Turn A) StepFault) (c : BookState) (t : SeatState) (q : Result (Turn A) StepFault) (d : BookState) (u : SeatState)
    → p ≡ p' → b ≡ b' → s ≡ s' → SeatTurns p s pick r t → BookTurns p b s.number pick r c t.seen → SeatTurns p' s' pick q u → BookTurns p' b' s'.number pick q d u.seen → TurnAlike s r c t q d u
same_turns p p' b b' s s' pick r c t q d u named books seats h k i l =
    let back : (p', b', s') ≡ (p, b, s) = λ j. (sym named j, sym books j, sym seats j) in
    same_turn p b s pick r c t q d u h k
    (subst (λ (z : Program × BookState × SeatState). SeatTurns z.0 z.2 pick q u) back i)
    (subst (λ (z : Program × BookState × SeatState). BookTurns z.0 z.1 z.2.number pick q d u.seen) back l)

-- ---- turns under a lock

-- what a turn says to a seat that has then seen this
abbrev Takes : Program → SeatState → List Entry → ℕ → Result TurnState StepFault → Type 0
Takes p s seen pick (Ok (receipt r)) =
    (before : List Entry) × (seen ≡ before ++ entry s.number pick ∷ []) × (r ≡ receipt_after p before s.number pick) × (made_by s.number seen ≡ suc (made_by s.number s.seen))
Takes p s seen pick (Ok (front k)) = (k ≡ length seen) × (length seen < JOURNAL) × (made_by s.number seen ≡ made_by s.number s.seen)
Takes p s seen pick (Err LimitReached) = (length seen ≡ JOURNAL) × (made_by s.number seen ≡ made_by s.number s.seen)
Takes p s seen pick (Err Spent) = ⊥
Takes p s seen pick (Err OutOfMemory) = ⊥

one_take : (p : Program) (s : SeatState) (seen : List Entry) (pick : ℕ) (x y : Result TurnState StepFault) → Takes p s seen pick x → Takes p s seen pick y → x ≡ y
one_take p s seen pick (Ok (receipt r)) (Ok (receipt q)) h i =
    let same : h.0 ≡ i.0 = append_cancel_right h.0 i.0 (entry s.number pick ∷ []) (sym h.1 ∙ i.1) in
    ap (λ z. Ok (receipt z)) (h.2 ∙ ap (λ es. receipt_after p es s.number pick) same ∙ sym i.2)
one_take p s seen pick (Ok (receipt r)) (Ok (front k)) h i = absurd (omega (arith, h.3, i.2))
one_take p s seen pick (Ok (front k)) (Ok (receipt r)) h i = absurd (omega (arith, h.2, i.3))
one_take p s seen pick (Ok (front k)) (Ok (front j)) h i = ap (λ z. Ok (front z)) (h.0 ∙ sym i.0)
one_take p s seen pick (Ok (receipt r)) (Err LimitReached) h i = absurd (omega (arith, h.3, i.1))
one_take p s seen pick (Ok (front k)) (Err LimitReached) h i = absurd (omega (arith, h.1, i.0))
one_take p s seen pick (Err LimitReached) (Ok (receipt r)) h i = absurd (omega (arith, h.1, i.3))
one_take p s seen pick (Err LimitReached) (Ok (front k)) h i = absurd (omega (arith, h.0, i.1))
one_take p s seen pick (Err LimitReached) (Err LimitReached) h i = refl
one_take p s seen pick (Err Spent) y h i = absurd h
one_take p s seen pick (Err OutOfMemory) y h i = absurd h
one_take p s seen pick (Ok x) (Err Spent) h i = absurd i
one_take p s seen pick (Ok x) (Err OutOfMemory) h i = absurd i
one_take p s seen pick (Err LimitReached) (Err Spent) h i = absurd i
one_take p s seen pick (Err LimitReached) (Err OutOfMemory) h i = absurd i

module _ {A : Type 0} (p : Program) (s t : SeatState) (pick : ℕ) where
  number_stays : (r : Result (Turn A) StepFault) → SeatTurns p s pick r t → t.number ≡ s.number
  number_stays (Ok (Moved r)) h = ap (λ z. z.number) h.2
  number_stays (Ok (Idle n)) h = ap (λ z. z.number) h.1
  number_stays (Err LimitReached) h = ap (λ z. z.number) h.1
  number_stays (Err Spent) h = ap (λ z. z.number) h
  number_stays (Err OutOfMemory) h = ap (λ z. z.number) h

  made_is : (r : Result (Turn A) StepFault) → SeatTurns p s pick r t → made_by s.number t.seen ≡ made_by t.number t.seen
  made_is r h = ap (λ n. made_by n t.seen) (sym (number_stays r h))

  takes : (r : Result (Turn A) StepFault) → SeatTurns p s pick r t → SeatCounts s r t → IfSome (take_seen r) (Takes p s t.seen pick)
  takes (Ok (Moved r)) h k = (h.0, ap (λ z. z.seen) h.2, receipt_is p h.0 s.number pick r h.4, made_is (Ok (Moved r)) h ∙ k.0)
  takes (Ok (Idle n)) h k = (h.3, h.4, made_is (Ok (Idle n)) h ∙ k.0)
  takes (Err LimitReached) h k = (h.2, made_is (Err LimitReached) h ∙ k.0)
  takes (Err Spent) h k = tt
  takes (Err OutOfMemory) h k = tt

  stays_there : (r : Result (Turn A) StepFault) → SeatTurns p s pick r t → take_seen r ≡ None → t ≡ s
  stays_there (Ok turn) h e = cc
  stays_there (Err LimitReached) h e = cc
  stays_there (Err Spent) h e = h
  stays_there (Err OutOfMemory) h e = h

-- of seats that are the same
pub same_takes : {A : Type 0} (p p' : Program) (s s' : SeatState) (pick : ℕ) (r : Result (Turn A) StepFault) (t : SeatState) (q : Result (Turn A) StepFault) (u : SeatState)
    → p ≡ p' → s ≡ s' → SeatTurns p s pick r t → SeatCounts s r t → SeatTurns p' s' pick q u → SeatCounts s' q u → TakesAlike s r t q u
same_takes {A} p p' s s' pick r t q u named seats h k i' l' =
    let back : (p', s') ≡ (p, s) = λ j. (sym named j, sym seats j) in
    let i : SeatTurns p s pick q u = subst (λ (z : Program × SeatState). SeatTurns z.0 z.1 pick q u) back i' in
    let l : SeatCounts s q u = subst (λ z. SeatCounts z q u) (sym seats) l' in
    record {
      answers = λ e. agree_by (Takes p s t.seen pick) (one_take p s t.seen pick) _ _
          (takes p s t pick r h k) (subst (λ seen. IfSome (take_seen q) (Takes p s seen pick)) (sym e) (takes p s u pick q i l));
      numbers = number_stays p s t pick r h ∙ sym (number_stays p s u pick q i);
      unmoved = stays_there p s t pick r h;
    }
