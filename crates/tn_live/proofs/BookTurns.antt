-- What a turn does to a book and to a seat, as contracts see them.
use Rattle.std.proofs.Common.{◌≡◌, ◌∙◌, ℕ, suc, ◌<◌, List, [], ◌∷◌, ◌++◌, length, Some, Ok, Err, Result, refl, sym, ap, subst}
use Rattle.def_script.specs.Program.{Program}
use Rattle.def_run.specs.Laws.{IsIdleAfter}
use Rattle.def_run.specs.Run.{JOURNAL}
use Rattle.tn_trace.specs.declared.item.StepFault.{StepFault}
use Rattle.tn_trace.specs.declared.item.StepFault.TheVariants.{LimitReached, Spent, OutOfMemory}
use Rattle.tn_live.specs.declared.entry.Entry.{Entry}
use Rattle.tn_live.specs.declared.entry.Turn.{Turn}
use Rattle.tn_live.specs.declared.entry.Turn.TheVariants.{Moved, Idle}
use Rattle.tn_live.specs.declared.record.Seen.{Seen}
use Rattle.tn_live.specs.declared.record.Record.{Record}
use Rattle.tn_live.specs.Journal.{entry, picks_of, made_by, last_by}
use Rattle.tn_live.specs.States.{HasPrefix, SeatState, seat_of, book_of}
use Rattle.tn_live.specs.Records.{IsSeen, IsRecord}
use Rattle.tn_live.specs.RecordTurns.{IsTurnOf}
use Rattle.tn_live.specs.SeatTurns.{FollowsEntries, SeatTurns, SeatCounts, BookTurns}
use Rattle.tn_live.proofs.Journals.{made_own, made_over, last_own, last_over}
use Rattle.tn_live.proofs.RecordTurns.{seen_as}

abbrev state_of : {A J : Type 0} → Seen A J → SeatState
state_of s = seat_of s.number s.entries.items

same_state : (n m : ℕ) (xs ys : List Entry) → n ≡ m → xs ≡ ys → seat_of n xs ≡ seat_of m ys
same_state n m xs ys number seen = λ i. seat_of (number i) (seen i)

same_book : (xs ys : List Entry) → xs ≡ ys → book_of xs ≡ book_of ys
same_book xs ys entries = ap book_of entries

module _ {A J : Type 0} (p : Program) (pick : ℕ) (r q : Record A J) (s t : Seen A J) where
  follows : (seen : List Entry) → HasPrefix r.entries.items s.number s.entries.items → seen ≡ r.entries.items → FollowsEntries (state_of s) seen
  follows seen b whole = record { between = b.0; after = whole ∙ b.1; others = b.2 }

  pub seat_turns : (result : Result (Turn A) StepFault) → HasPrefix r.entries.items s.number s.entries.items → IsTurnOf p pick r s result q t → SeatTurns p (state_of s) pick result (state_of t)
  seat_turns (Ok (Moved receipt)) b e = (
    r.entries.items,
    follows r.entries.items b refl,
    same_state t.number s.number t.entries.items (r.entries.items ++ entry s.number pick ∷ []) e.number (e.shown ∙ e.added),
    e.moves,
    e.receipt_is,
    e.room,
  )
  seat_turns (Ok (Idle front)) b e = (
    follows t.entries.items b e.0.shown,
    same_state t.number s.number t.entries.items t.entries.items e.0.number refl,
    subst (λ (es : List Entry). IsIdleAfter p (picks_of es) pick) (sym e.0.shown) e.2,
    e.3 ∙ ap length (sym e.0.shown),
    subst (λ (es : List Entry). length es < JOURNAL) (sym e.0.shown) e.1,
  )
  seat_turns (Err LimitReached) b e = (follows t.entries.items b e.0.shown, same_state t.number s.number t.entries.items t.entries.items e.0.number refl, ap length e.0.shown ∙ e.1)
  seat_turns (Err Spent) b e = absurd e
  seat_turns (Err OutOfMemory) b e = same_state t.number s.number t.entries.items s.entries.items e.number e.entries

  made_stays : HasPrefix r.entries.items s.number s.entries.items → t.number ≡ s.number → t.entries.items ≡ r.entries.items → made_by t.number t.entries.items ≡ made_by s.number s.entries.items
  made_stays b number seen = ap (λ n. made_by n t.entries.items) number ∙ ap (λ es. made_by s.number es) seen ∙ made_over s.number r.entries.items s.entries.items b

  last_stays : HasPrefix r.entries.items s.number s.entries.items → t.number ≡ s.number → t.entries.items ≡ r.entries.items → last_by t.number t.entries.items ≡ last_by s.number s.entries.items
  last_stays b number seen = ap (λ n. last_by n t.entries.items) number ∙ ap (λ es. last_by s.number es) seen ∙ last_over s.number r.entries.items s.entries.items b

  made_same : t.number ≡ s.number → t.entries.items ≡ s.entries.items → made_by t.number t.entries.items ≡ made_by s.number s.entries.items
  made_same number seen = ap (λ n. made_by n t.entries.items) number ∙ ap (λ es. made_by s.number es) seen

  last_same : t.number ≡ s.number → t.entries.items ≡ s.entries.items → last_by t.number t.entries.items ≡ last_by s.number s.entries.items
  last_same number seen = ap (λ n. last_by n t.entries.items) number ∙ ap (λ es. last_by s.number es) seen

  pub seat_counts : (result : Result (Turn A) StepFault) → HasPrefix r.entries.items s.number s.entries.items → IsTurnOf p pick r s result q t → SeatCounts (state_of s) result (state_of t)
  seat_counts (Ok (Moved receipt)) b e = (
    ap (λ n. made_by n t.entries.items) e.number
        ∙ ap (λ es. made_by s.number es) (e.shown ∙ e.added)
        ∙ made_own s.number pick r.entries.items
        ∙ ap (λ n. suc n) (made_over s.number r.entries.items s.entries.items b),
    ap (λ n. last_by n t.entries.items) e.number
        ∙ ap (λ es. last_by s.number es) (e.shown ∙ e.added)
        ∙ last_own s.number pick r.entries.items
        ∙ ap Some (sym e.receipt_is.at),
  )
  seat_counts (Ok (Idle front)) b e = (made_stays b e.0.number e.0.shown, last_stays b e.0.number e.0.shown)
  seat_counts (Err LimitReached) b e = (made_stays b e.0.number e.0.shown, last_stays b e.0.number e.0.shown)
  seat_counts (Err Spent) b e = absurd e
  seat_counts (Err OutOfMemory) b e = (made_same e.number e.entries, last_same e.number e.entries)

  pub book_turns : (turn : Turn A) → IsTurnOf p pick r s (Ok turn) q t → BookTurns p (book_of r.entries.items) s.number pick (Ok turn) (book_of q.entries.items) t.entries.items
  book_turns (Moved receipt) e = (e.room, e.moves, same_book q.entries.items (r.entries.items ++ entry s.number pick ∷ []) e.added, e.shown)
  book_turns (Idle front) e = (e.1, e.2, same_book q.entries.items r.entries.items e.0.same, e.0.shown)

  pub limit_turns : IsTurnOf p pick r s (Err LimitReached) q t → BookTurns {A = A} p (book_of r.entries.items) s.number pick (Err LimitReached) (book_of q.entries.items) t.entries.items
  limit_turns e = (e.1, same_book q.entries.items r.entries.items e.0.same, e.0.shown)

  pub turns_record : (turn : Turn A) → IsTurnOf p pick r s (Ok turn) q t → IsRecord p q
  turns_record (Moved receipt) e = e.record_is
  turns_record (Idle front) e = e.0.record_is

  pub turns_seen : (result : Result (Turn A) StepFault) → IsSeen p s → IsTurnOf p pick r s result q t → IsSeen p t
  turns_seen (Ok (Moved receipt)) seen e = e.seen_is
  turns_seen (Ok (Idle front)) seen e = e.0.seen_is
  turns_seen (Err LimitReached) seen e = e.0.seen_is
  turns_seen (Err Spent) seen e = absurd e
  turns_seen (Err OutOfMemory) seen e = seen_as p s t seen e.front e.entries e.number e.made e.last
