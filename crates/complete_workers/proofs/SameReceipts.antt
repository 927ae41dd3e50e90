-- What seats have seen says which receipts they have earned.
use Rattle.std.proofs.Common.{◌≡◌, ◌∙◌, ℕ, Bool, true, false, nat_eq, List, [], ◌∷◌, ◌++◌, length, map, MatchBool, sym, ap, ap₂, subst}
use Rattle.std.proofs.lemmas.List.{append_cancel_left, map-append}
use Rattle.def_script.specs.Program.{Program}
use Rattle.def_run.specs.Listing.{Item, answer}
use Rattle.tn_trace.specs.Items.{item_seen}
use Rattle.tn_live.specs.declared.entry.Entry.{Entry}
use Rattle.tn_live.specs.declared.entry.Receipt.{Receipt}
use Rattle.tn_live.specs.Journal.{picks_of}
use Rattle.tn_live.specs.States.{SeatState}
use Rattle.tn_live.specs.SeatTurns.{IsReceipt}
use Rattle.tn_pool.specs.Earnings.{Earns, Works}
use Rattle.tn_pool.specs.Reports.{Reports}
use Rattle.complete_live.specs.Alike.{ReceiptState, receipt_seen}
use Rattle.complete_workers.specs.Receipts.{seat_numbers}

-- ---- one seat

abbrev seen_as : ℕ → ℕ → ℕ → List Item → ReceiptState
seen_as seat number pick items = record { seat = seat; number = number; pick = pick; items = items }

receipt_is : {A : Type 0} (p : Program) (seat : ℕ) (before : List Entry) (pick : ℕ) (r : Receipt A) → IsReceipt p seat before pick r
    → receipt_seen r ≡ seen_as seat (length before) pick (answer p (picks_of before ++ pick ∷ []) (length before))
receipt_is p seat before pick r h =
    let items = map item_seen r.items.items in
    ap (λ x. seen_as x r.number r.pick items) h.by
    ∙ ap (λ x. seen_as seat x r.pick items) h.at
    ∙ ap (λ x. seen_as seat (length before) x items) h.picked
    ∙ ap (seen_as seat (length before) pick) h.answered

by_both : (b : Bool) (P Q P' Q' : Type 0) {G : Type 0} → (P → P' → G) → (Q → Q' → G) → MatchBool b P Q → MatchBool b P' Q' → G
by_both true P Q P' Q' f g h i = f h i
by_both false P Q P' Q' f g h i = g h i

module _ {A : Type 0} (p : Program) where
  earned_once : (seat : ℕ) (before gained : List Entry) (rs qs : List (Receipt A)) → Earns p seat before gained rs → Earns p seat before gained qs → map receipt_seen rs ≡ map receipt_seen qs
  earned_once seat before [] rs qs h i = ap (map receipt_seen) (h ∙ sym i)
  earned_once seat before (e ∷ rest) rs qs h i =
      by_both (nat_eq e.seat seat) _ _ _ _
      (λ k l. ap (map receipt_seen) k.2
      ∙ ap₂ (λ x xs. x ∷ xs) (receipt_is p seat before e.pick k.0 k.3 ∙ sym (receipt_is p seat before e.pick l.0 l.3)) (earned_once seat (before ++ e ∷ []) rest k.1 l.1 k.4 l.4)
      ∙ sym (ap (map receipt_seen) l.2))
      (λ k l. earned_once seat (before ++ e ∷ []) rest rs qs k l)
      h i

  -- the seat has seen the same in both
  worked_once : (s t u : SeatState) (rs qs : List (Receipt A)) → t ≡ u → Works p s t rs → Works p s u qs → map receipt_seen rs ≡ map receipt_seen qs
  worked_once s t u rs qs e h i =
      let both : s.seen ++ h.gained ≡ s.seen ++ i.gained = ap (λ (x : SeatState). x.seen) (sym h.seen ∙ e ∙ i.seen) in
      let same : i.gained ≡ h.gained = sym (append_cancel_left s.seen h.gained i.gained both) in
      earned_once s.number s.seen h.gained rs qs h.earned (subst (λ g. Earns p s.number s.seen g qs) same i.earned)

-- ---- all seats

first_same : {X : Type 0} (x y : X) (xs ys : List X) → x ∷ xs ≡ y ∷ ys → x ≡ y
first_same x y xs ys e = cc

rest_same : {X : Type 0} (x y : X) (xs ys : List X) → x ∷ xs ≡ y ∷ ys → xs ≡ ys
rest_same x y xs ys e = cc

module _ {A : Type 0} (p : Program) where
  of_seats : (seats back other : List SeatState) (rs qs : List (Receipt A)) → Reports p seats back rs → Reports p seats other qs → back ≡ other → map receipt_seen rs ≡ map receipt_seen qs
  of_seats [] back other rs qs h i e = ap (map receipt_seen) (h.1 ∙ sym i.1)
  of_seats (s ∷ seats) back other rs qs h i e =
      let both : h.0 ∷ h.1 ≡ i.0 ∷ i.1 = sym h.4 ∙ e ∙ i.4 in
      let first = worked_once p s h.0 i.0 h.2 i.2 (first_same h.0 i.0 h.1 i.1 both) h.6 i.6 in
      let others = of_seats seats h.1 i.1 h.3 i.3 h.7 i.7 (rest_same h.0 i.0 h.1 i.1 both) in
      ap (map receipt_seen) h.5 ∙ map-append receipt_seen h.2 h.3 ∙ ap₂ (λ xs ys. xs ++ ys) first others ∙ sym (map-append receipt_seen i.2 i.3) ∙ sym (ap (map receipt_seen) i.5)

  pub same_receipts : (seats others back back' : List SeatState) (rs qs : List (Receipt A)) → seats ≡ others → Reports p seats back rs → Reports p others back' qs → back ≡ back' → map receipt_seen rs ≡ map receipt_seen qs
  same_receipts seats others back back' rs qs e h i same = of_seats seats back back' rs qs h (subst (λ s. Reports p s back' qs) (sym e) i) same

  numbers_stay : (seats back : List SeatState) (rs : List (Receipt A)) → Reports p seats back rs → seat_numbers back ≡ seat_numbers seats
  numbers_stay [] back rs h = ap seat_numbers h.0
  numbers_stay (s ∷ seats) back rs h =
      ap seat_numbers h.4 ∙ ap₂ (λ x xs. x ∷ xs) (ap (λ (x : SeatState). x.number) h.6.seen) (numbers_stay seats h.1 h.3 h.7)

  pub same_numbers : (seats others back back' : List SeatState) (rs qs : List (Receipt A)) → seats ≡ others → Reports p seats back rs → Reports p others back' qs → seat_numbers back ≡ seat_numbers back'
  same_numbers seats others back back' rs qs e h i = numbers_stay seats back rs h ∙ ap seat_numbers e ∙ sym (numbers_stay others back' qs i)
