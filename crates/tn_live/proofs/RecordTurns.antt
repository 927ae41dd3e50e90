-- A record and what a seat has seen, through a turn.
use Rattle.std.proofs.Common.{◌≡◌, ◌∙◌, ℕ, suc, ◌+◌, ◌<◌, ◌≤◌, List, [], ◌∷◌, ◌++◌, length, map, Some, IfSome, Ok, Err, Result, refl, sym, ap, subst, arith, length-append}
use Rattle.def_script.specs.Program.{Program}
use Rattle.def_run.specs.Run.{moves}
use Rattle.def_run.specs.Listing.{Item as DefinedItem, answer}
use Rattle.tn_trace.specs.Items.{item_seen}
use Rattle.tn_trace.specs.Cores.{CoreValue, core_of, IsStepOf}
use Rattle.tn_trace.specs.declared.item.Answer.{Answer}
use Rattle.tn_live.specs.declared.entry.Entry.{Entry}
use Rattle.tn_live.specs.declared.entry.Receipt.{Receipt}
use Rattle.tn_live.specs.declared.entry.Turn.{Turn}
use Rattle.tn_live.specs.declared.entry.Turn.TheVariants.{Moved, Idle}
use Rattle.tn_trace.specs.declared.item.StepFault.{StepFault}
use Rattle.tn_trace.specs.declared.item.StepFault.TheVariants.{LimitReached, Spent, OutOfMemory}
use Rattle.tn_live.specs.declared.record.Seen.{Seen}
use Rattle.tn_live.specs.declared.record.Record.{Record}
use Rattle.tn_live.specs.Journal.{entry, picks_of, made_by, last_by}
use Rattle.tn_live.specs.States.{HasPrefix, IsJournal}
use Rattle.tn_live.specs.Places.{item_place, item_places}
use Rattle.tn_live.specs.Records.{IsSeen, IsRecord}
use Rattle.tn_live.specs.RecordTurns.{SameRecord, SameSeen, HasMoved, AddsEntry, Enters, Rests, IsTurnOf, MoveEnters}
use Rattle.tn_live.proofs.Journals.{picks-append, picks-length, made_own, made_over, last_own, last_over}
use Rattle.tn_live.proofs.Answers.{places_kept}

module _ {A J : Type 0} (p : Program) where
  -- a record that differs in its core alone, which is of the same journal
  pub record_as : (r q : Record A J) → IsRecord p r → q.front ≡ r.front → q.entries.items ≡ r.entries.items → q.places.items ≡ r.places.items → q.counts ≡ r.counts → q.core ≡ core_of p (picks_of r.entries.items) → IsRecord p q
  record_as r q is front entries places counts core = record {
    reached = front ∙ is.reached ∙ sym entries;
    core = core ∙ ap (λ (es : List Entry). core_of p (picks_of es)) (sym entries);
    moved = subst (IsJournal p) (sym entries) is.moved;
    placed = ap (map (λ v. v.items)) places ∙ is.placed ∙ ap (λ (es : List Entry). item_places p (picks_of es) (length es)) (sym entries);
    counted = λ seat d below. ap (λ cs. Rattle.std.proofs.Common.get_or cs seat d) counts ∙ is.counted seat d below ∙ ap (made_by seat) (sym entries);
  }

  pub seen_as : (s t : Seen A J) → IsSeen p s → t.front ≡ s.front → t.entries.items ≡ s.entries.items → t.number ≡ s.number → t.made ≡ s.made → t.last ≡ s.last → IsSeen p t
  seen_as s t is front entries number made last = record {
    reached = front ∙ is.reached ∙ sym entries;
    numbered = subst (λ n. n < 16) (sym number) is.numbered;
    moved = subst (IsJournal p) (sym entries) is.moved;
    counted = made ∙ is.counted ∙ ap (λ es. made_by s.number es) (sym entries) ∙ ap (λ n. made_by n t.entries.items) (sym number);
    latest = last ∙ is.latest ∙ ap (λ es. last_by s.number es) (sym entries) ∙ ap (λ n. last_by n t.entries.items) (sym number);
  }

  pub record_same : (r q : Record A J) → IsRecord p r → SameRecord r q → IsRecord p q
  record_same r q is same = record_as r q is same.front same.entries same.places same.counts (same.core ∙ is.core)

  -- what a step of its core answers
  pub core_steps : (r : Record A J) (pick : ℕ) (new : CoreValue) (result : Result (Answer A) StepFault) → IsRecord p r
      → IfSome r.core.journal (λ picks. IsStepOf r.core.program picks pick new result) → IsStepOf p (picks_of r.entries.items) pick new result
  core_steps r pick new result is h = subst (λ (v : CoreValue). IfSome v.journal (λ picks. IsStepOf v.program picks pick new result)) is.core h

  pub seen_same : (s t : Seen A J) → IsSeen p s → SameSeen s t → IsSeen p t
  seen_same s t is same = seen_as s t is same.front same.entries same.number same.made same.last

  -- a seat that has seen the whole journal, which had no later entry of it
  pub rests : (r q : Record A J) (s t : Seen A J) → IsRecord p r → IsRecord p q → IsSeen p s → HasPrefix r.entries.items s.number s.entries.items → q.entries.items ≡ r.entries.items
      → t.front ≡ q.front → t.entries.items ≡ q.entries.items → t.number ≡ s.number → t.made ≡ s.made → t.last ≡ s.last → Rests p r s q t
  rests r q s t is is' seen b entries front shown number made last =
      let whole : t.entries.items ≡ r.entries.items = shown ∙ entries in record {
        record_is = is';
        seen_is = record {
          reached = front ∙ is'.reached ∙ sym shown;
          numbered = subst (λ n. n < 16) (sym number) seen.numbered;
          moved = subst (IsJournal p) (sym whole) is.moved;
          counted = made ∙ seen.counted ∙ sym (made_over s.number r.entries.items s.entries.items b) ∙ ap (λ es. made_by s.number es) (sym whole) ∙ ap (λ n. made_by n t.entries.items) (sym number);
          latest = last ∙ seen.latest ∙ sym (last_over s.number r.entries.items s.entries.items b) ∙ ap (λ es. last_by s.number es) (sym whole) ∙ ap (λ n. last_by n t.entries.items) (sym number);
        };
        number = number;
        same = entries;
        shown = whole;
      }

  -- the record with one more entry
  pub record_more : (r q : Record A J) (n pick : ℕ) (items : List DefinedItem) → HasMoved p pick r items → AddsEntry n pick (map item_place items) r q → IsRecord p q
  record_more r q n pick items moved adds =
      let es : List Entry = r.entries.items in
      let picks : List ℕ = picks_of es in
      let grown : picks_of q.entries.items ≡ picks ++ pick ∷ [] = ap picks_of adds.entries ∙ picks-append es (entry n pick ∷ []) in
      let size : length q.entries.items ≡ suc (length es) = omega (arith, ap length adds.entries, length-append es (entry n pick ∷ [])) in
      let kept : item_places p (picks ++ pick ∷ []) (length es) ≡ item_places p picks (length es) =
      places_kept p picks (pick ∷ []) (length es) moved.journal moved.moved.moved (omega (arith, picks-length es)) in
      let answered : items ≡ answer p (picks ++ pick ∷ []) (length es) = moved.moved.answered ∙ ap (answer p (picks ++ pick ∷ [])) (picks-length es) in record {
        reached = adds.front;
        core = adds.core ∙ moved.moved.after ∙ ap (core_of p) (sym grown);
        moved = subst (λ ps. moves p ps ≡ ps) (sym grown) moved.moved.moved;
        placed =
            adds.places
            ∙ ap (λ vs. vs ++ map item_place items ∷ []) (moved.placed ∙ sym kept)
            ∙ ap (λ xs. item_places p (picks ++ pick ∷ []) (length es) ++ map item_place xs ∷ []) answered
            ∙ ap (item_places p (picks ++ pick ∷ [])) (sym size)
            ∙ ap (λ ps. item_places p ps (length q.entries.items)) (sym grown);
        counted = adds.counted;
      }

  -- what a seat has seen with its own entry
  pub seen_more : (s t : Seen A J) (es fs : List Entry) (pick : ℕ) → IsSeen p s → HasPrefix es s.number s.entries.items → moves p (picks_of es ++ pick ∷ []) ≡ picks_of es ++ pick ∷ []
      → fs ≡ es ++ entry s.number pick ∷ [] → t.front ≡ fs → t.entries.items ≡ fs → t.number ≡ s.number → t.made ≡ s.made + 1 → t.last ≡ Some (length es) → IsSeen p t
  seen_more s t es fs pick seen b moved added front shown number made last =
      let whole : t.entries.items ≡ es ++ entry s.number pick ∷ [] = shown ∙ added in
      let grown : picks_of t.entries.items ≡ picks_of es ++ pick ∷ [] = ap picks_of whole ∙ picks-append es (entry s.number pick ∷ []) in
      let counted : s.made + 1 ≡ made_by s.number (es ++ entry s.number pick ∷ []) = omega (arith, seen.counted, made_over s.number es s.entries.items b, made_own s.number pick es) in record {
        reached = front ∙ sym shown;
        numbered = subst (λ n. n < 16) (sym number) seen.numbered;
        moved = subst (λ ps. moves p ps ≡ ps) (sym grown) moved;
        counted = made ∙ counted ∙ ap (λ xs. made_by s.number xs) (sym whole) ∙ ap (λ n. made_by n t.entries.items) (sym number);
        latest = last ∙ sym (last_own s.number pick es) ∙ ap (λ xs. last_by s.number xs) (sym whole) ∙ ap (λ n. last_by n t.entries.items) (sym number);
      }

  pub enters : (r q : Record A J) (s t : Seen A J) (pick : ℕ) (receipt : Receipt A) → HasMoved p pick r (map item_seen receipt.items.items) → IsSeen p s → HasPrefix r.entries.items s.number s.entries.items
      → AddsEntry s.number pick (map item_place (map item_seen receipt.items.items)) r q → t.front ≡ q.front → t.entries.items ≡ q.entries.items → t.number ≡ s.number → t.made ≡ s.made + 1 → t.last ≡ Some (length r.entries.items)
      → receipt.seat ≡ s.number → receipt.number ≡ length r.entries.items → receipt.pick ≡ pick → Enters p pick r s receipt q t
  enters r q s t pick receipt moved seen b adds front shown number made last by at picked =
      let es : List Entry = r.entries.items in
      let picks : List ℕ = picks_of es in record {
        room = subst (λ n. n < 65536) (picks-length es) moved.moved.room;
        moves = moved.moved.moved;
        record_is = record_more r q s.number pick (map item_seen receipt.items.items) moved adds;
        seen_is = seen_more s t es q.entries.items pick seen b moved.moved.moved adds.entries (front ∙ adds.front) shown number made last;
        number = number;
        added = adds.entries;
        shown = shown;
        receipt_is = record {
          by = by;
          at = at;
          picked = picked;
          answered = moved.moved.answered ∙ ap (answer p (picks ++ pick ∷ [])) (picks-length es);
        };
      }

  -- what a move answers is what its turn answers, which got its room before
  pub turns_from : (r r' q : Record A J) (s s' t : Seen A J) (pick : ℕ) (result : Result (Turn A) StepFault) → r'.entries.items ≡ r.entries.items → SameSeen s s' → MoveEnters p pick r' s' result q t → IsTurnOf p pick r s result q t
  turns_from r r' q s s' t pick (Ok (Moved receipt)) entries same e = record {
    room = subst (λ (es : List Entry). length es < 65536) entries e.room;
    moves = subst (λ (es : List Entry). moves p (picks_of es ++ pick ∷ []) ≡ picks_of es ++ pick ∷ []) entries e.moves;
    record_is = e.record_is;
    seen_is = e.seen_is;
    number = e.number ∙ same.number;
    added = e.added ∙ ap (λ es. es ++ entry s'.number pick ∷ []) entries ∙ ap (λ n. r.entries.items ++ entry n pick ∷ []) same.number;
    shown = e.shown;
    receipt_is = record {
      by = e.receipt_is.by ∙ same.number;
      at = e.receipt_is.at ∙ ap length entries;
      picked = e.receipt_is.picked;
      answered = e.receipt_is.answered ∙ ap (λ (es : List Entry). answer p (picks_of es ++ pick ∷ []) (length es)) entries;
    };
  }
  turns_from r r' q s s' t pick (Ok (Idle front)) entries same e = absurd e
  turns_from r r' q s s' t pick (Err LimitReached) entries same e = absurd e
  turns_from r r' q s s' t pick (Err Spent) entries same e = absurd e
  turns_from r r' q s s' t pick (Err OutOfMemory) entries same e = record {
    front = e.front ∙ same.front;
    number = e.number ∙ same.number;
    entries = e.entries ∙ same.entries;
    made = e.made ∙ same.made;
    last = e.last ∙ same.last;
  }

-- a beginning of the same lists
pub begins_as : (es fs seen seen' : List Entry) (n n' : ℕ) → fs ≡ es → seen' ≡ seen → n' ≡ n → HasPrefix es n seen → HasPrefix fs n' seen'
begins_as es fs seen seen' n n' entries same number b = (b.0, entries ∙ b.1 ∙ ap (λ xs. xs ++ b.0) (sym same), ap (λ m. made_by m b.0) number ∙ b.2)

pub length_as : (es fs : List Entry) → es ≡ fs → length (picks_of es) ≡ length fs
length_as es fs same = picks-length es ∙ ap length same
