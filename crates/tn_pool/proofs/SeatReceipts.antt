-- The receipts of a seat that turns.
use Rattle.std.proofs.Common.{◌≡◌, ℕ, ◌+◌, Bool, true, false, cond, nat_eq, List, [], ◌∷◌, ◌++◌, MatchBool, sym, refl, ap, ◌∙◌, subst, arith, append_assoc, Ok, Err}
use Rattle.std.proofs.lemmas.List.{append-nil}
use Rattle.std.proofs.lemmas.List.Sums.{sum_by-cons}
use Rattle.std.proofs.lemmas.Bool.Decides.{Decides-eqb}
use Rattle.def_script.specs.Program.{Program}
use Rattle.tn_trace.specs.declared.item.StepFault.{StepFault}
use Rattle.tn_trace.specs.declared.item.StepFault.TheVariants.{LimitReached, Spent, OutOfMemory}
use Rattle.tn_live.specs.declared.entry.Entry.{Entry}
use Rattle.tn_live.specs.declared.entry.Receipt.{Receipt}
use Rattle.tn_live.specs.declared.entry.Turn.TheVariants.{Moved, Idle}
use Rattle.tn_live.specs.Journal.{entry, made_by}
use Rattle.tn_live.specs.States.{SeatState, seat_of}
use Rattle.tn_live.specs.SeatTurns.{IsReceipt, SeatTurns}
use Rattle.tn_pool.specs.declared.worker.Worker.{Worker}
use Rattle.tn_pool.specs.Earnings.{Earns, Works, WorksOn}

map-match : (b : Bool) (P Q P' Q' : Type 0) → (P → P') → (Q → Q') → MatchBool b P Q → MatchBool b P' Q'
map-match true P Q P' Q' f g h = f h
map-match false P Q P' Q' f g h = g h

to-true : (b : Bool) (P Q : Type 0) → b ≡ true → P → MatchBool b P Q
to-true true P Q e p = p
to-true false P Q e p = absurd cc

to-false : (b : Bool) (P Q : Type 0) → b ≡ false → Q → MatchBool b P Q
to-false true P Q e p = absurd cc
to-false false P Q e p = p

none-false : (b : Bool) (k : ℕ) → cond b 1 0 + k ≡ 0 → (b ≡ false) × (k ≡ 0)
none-false true k none = absurd (omega arith)
none-false false k none = (refl, omega arith)

made-cons : (seat : ℕ) (x : Entry) (xs : List Entry) → made_by seat (x ∷ xs) ≡ cond (nat_eq x.seat seat) 1 0 + made_by seat xs
made-cons seat x xs = sum_by-cons _ x xs

module _ (A : Type 0) (p : Program) where
  -- entries of others earn nothing
  pub earns-others : (n : ℕ) (before xs : List Entry) → made_by n xs ≡ 0 → Earns {A = A} p n before xs []
  earns-others n before [] none = refl
  earns-others n before (e ∷ xs) none =
      let t = none-false (nat_eq e.seat n) (made_by n xs) (sym (made-cons n e xs) ∙ none) in
      to-false (nat_eq e.seat n) _ _ t.0 (earns-others n (before ++ e ∷ []) xs t.1)

  pub earns-append : (n : ℕ) (before xs ys : List Entry) (rs ss : List (Receipt A)) → Earns p n before xs rs → Earns p n (before ++ xs) ys ss → Earns p n before (xs ++ ys) (rs ++ ss)
  earns-append n before [] ys rs ss h k = subst (λ w. Earns p n w ys (rs ++ ss)) (append-nil before) (subst (λ w. Earns p n (before ++ []) ys (w ++ ss)) (sym h) k)
  earns-append n before (e ∷ xs) ys rs ss h k =
      let k' = subst (λ w. Earns p n w ys ss) (sym (append_assoc before (e ∷ []) xs)) k in
      map-match (nat_eq e.seat n) _ _ _ _
      (λ t. (t.0, t.1 ++ ss, ap (λ w. w ++ ss) t.2, t.3, earns-append n (before ++ e ∷ []) xs ys t.1 ss t.4 k'))
      (λ t. earns-append n (before ++ e ∷ []) xs ys rs ss t k')
      h

  pub earns-own : (n k : ℕ) (before : List Entry) (r : Receipt A) → IsReceipt p n before k r → Earns p n before (entry n k ∷ []) (r ∷ [])
  earns-own n k before r is = to-true (nat_eq n n) _ _ ((Decides-eqb n n).1 refl) (r, [], refl, is, refl)

  works-moved : (s t : SeatState) (k : ℕ) (r : Receipt A) → SeatTurns p s k (Ok (Moved r)) t → Works p s t (r ∷ [])
  works-moved s t k r turn =
      let between = turn.1.between in
      let after = turn.1.after in
      let own = entry s.number k ∷ [] in
      record {
        gained = between ++ own;
        seen = turn.2 ∙ (ap (λ b. seat_of s.number (b ++ own)) after ∙ ap (λ w. seat_of s.number w) (append_assoc s.seen between own));
        earned = earns-append s.number s.seen between own [] (r ∷ []) (earns-others s.number s.seen between turn.1.others) (earns-own s.number k (s.seen ++ between) r (subst (λ b. IsReceipt p s.number b k r) after turn.4));
      }

  works-idle : (s t : SeatState) (k front : ℕ) → SeatTurns {A = A} p s k (Ok (Idle front)) t → Works {A = A} p s t []
  works-idle s t k front turn = record { gained = turn.0.between; seen = turn.1 ∙ ap (λ w. seat_of s.number w) turn.0.after; earned = earns-others s.number s.seen turn.0.between turn.0.others }

  pub works-still : (s t : SeatState) → t ≡ s → Works {A = A} p s t []
  works-still s t e = record { gained = []; seen = e ∙ ap (λ w. seat_of s.number w) (sym (append-nil s.seen)); earned = refl }

  works-fault : (s t : SeatState) (k : ℕ) (fault : StepFault) → SeatTurns {A = A} p s k (Err fault) t → Works {A = A} p s t []
  works-fault s t k LimitReached turn = record { gained = turn.0.between; seen = turn.1 ∙ ap (λ w. seat_of s.number w) turn.0.after; earned = earns-others s.number s.seen turn.0.between turn.0.others }
  works-fault s t k Spent turn = works-still s t turn
  works-fault s t k OutOfMemory turn = works-still s t turn

  works-both : (s t u : SeatState) (rs ss : List (Receipt A)) → Works p s t rs → Works p t u ss → Works p s u (rs ++ ss)
  works-both s t u rs ss f g =
      let n : t.number ≡ s.number = ap (λ (x : SeatState). x.number) f.seen in
      let e : t.seen ≡ s.seen ++ f.gained = ap (λ (x : SeatState). x.seen) f.seen in
      let more = rw (n, e) at g.earned in
      record {
        gained = f.gained ++ g.gained;
        seen = g.seen ∙ rw (n, e) (ap (λ w. seat_of s.number w) (append_assoc s.seen f.gained g.gained));
        earned = earns-append s.number s.seen f.gained g.gained rs ss f.earned more;
      }

  -- ---- a worker

  module _ {J : Type 0} where
    pub on_moved : (v w : Worker A J) (k : ℕ) (r : Receipt A) → SeatTurns p v.seat k (Ok (Moved r)) w.seat → w.receipts.items ≡ v.receipts.items ++ r ∷ [] → WorksOn p v w
    on_moved v w k r turn e = record { more = r ∷ []; receipts = e; works = works-moved v.seat w.seat k r turn }

    pub on_idle : (v w : Worker A J) (k front : ℕ) → SeatTurns {A = A} p v.seat k (Ok (Idle front)) w.seat → w.receipts.items ≡ v.receipts.items → WorksOn p v w
    on_idle v w k front turn e = record { more = []; receipts = e ∙ sym (append-nil v.receipts.items); works = works-idle v.seat w.seat k front turn }

    pub on_fault : (v w : Worker A J) (k : ℕ) (fault : StepFault) → SeatTurns {A = A} p v.seat k (Err fault) w.seat → w.receipts.items ≡ v.receipts.items → WorksOn p v w
    on_fault v w k fault turn e = record { more = []; receipts = e ∙ sym (append-nil v.receipts.items); works = works-fault v.seat w.seat k fault turn }

    pub on_still : (v w : Worker A J) → w.seat ≡ v.seat → w.receipts.items ≡ v.receipts.items → WorksOn p v w
    on_still v w s e = record { more = []; receipts = e ∙ sym (append-nil v.receipts.items); works = works-still v.seat w.seat s }

    pub on_both : (v w x : Worker A J) → WorksOn p v w → WorksOn p w x → WorksOn p v x
    on_both v w x f g = record { more = f.more ++ g.more; receipts = g.receipts ∙ (ap (λ l. l ++ g.more) f.receipts ∙ append_assoc v.receipts.items f.more g.more); works = works-both v.seat w.seat x.seat f.more g.more f.works g.works }
