-- A receipt held against a record.
use Rattle.std.proofs.Common.{◌≡◌, ◌∙◌, ℕ, suc, ◌+◌, ◌<◌, ◌≤◌, List, [], ◌∷◌, zero, length, map, get_or, Option, Some, None, refl, sym, ap, subst, arith, IsTrue, ◌↔◌, Bool}
use Rattle.std.proofs.lemmas.Option.{slice_get_within, slice_get_read, get_or_from_slice_get}
use Rattle.std.proofs.lemmas.List.{length-map}
use Rattle.def_script.specs.Program.{Program}
use Rattle.def_run.specs.Run.{moves}
use Rattle.def_run.specs.Listing.{answer}
use Rattle.tn_trace.specs.Items.{item_seen}
use Rattle.tn_trace.specs.declared.item.Item.{Item}
use Rattle.tn_live.specs.declared.entry.Entry.{Entry}
use Rattle.tn_live.specs.declared.entry.ItemPlace.{ItemPlace}
use Rattle.tn_live.specs.declared.entry.Receipt.{Receipt}
use Rattle.tn_live.specs.Journal.{entry, picks_of}
use Rattle.tn_trace.specs.Cores.{CoreValue, core_of}
use Rattle.tn_live.specs.Places.{item_place, item_places, reported_at, AreTold, TellsWhether}
use Rattle.tn_live.specs.ClosedJournals.{Confirms}
use Rattle.tn_live.proofs.Journals.{picks-length}
use Rattle.tn_live.proofs.Answers.{places_at, places-length, answer_told, some_same}

-- of a core whose program and journal are known
pub told_of : (p : Program) (picks : List ℕ) (core : CoreValue) (result : Bool) (Holds : Program → List ℕ → Type 0) → core ≡ core_of p picks → TellsWhether core result Holds → IsTrue result ↔ Holds p picks
told_of p picks core result Holds is tells = subst (λ (v : CoreValue). TellsWhether v result Holds) is tells picks refl

entry_or : Entry → Option Entry → Entry
entry_or e None = e
entry_or e (Some x) = x

map_some : {A : Type 0} (xs : List (Item A)) → map (λ x. Some (item_seen x)) xs ≡ map Some (map item_seen xs)
map_some [] = refl
map_some (x ∷ xs) = ap (λ ys. Some (item_seen x) ∷ ys) (map_some xs)

get_map : {A B : Type 0} (f : A → B) (xs : List A) (n : ℕ) (x : A) (d : B) → n < length xs → x ≡ get_or xs n x → f x ≡ get_or (map f xs) n d
get_map f [] n x d below at = absurd (omega arith)
get_map f (y ∷ xs) zero x d below at = ap f at
get_map f (y ∷ xs) (suc n) x d below at = get_map f xs n x d (omega arith) at

module _ {A : Type 0} (p : Program) (es : List Entry) (r : Receipt A) where
  -- a receipt of no entry
  pub past_end : length es ≤ r.number → Confirms p es r → ⊥
  past_end past h = let below : r.number < length es = slice_get_within es r.number (entry r.seat r.pick) h.entered in absurd (omega arith)

  -- a receipt of another seat or pick
  pub entered_as : (e : Entry) → e ≡ get_or es r.number e → Confirms p es r → e ≡ entry r.seat r.pick
  entered_as e at h = at ∙ get_or_from_slice_get es r.number (entry r.seat r.pick) e h.entered

  -- a receipt of the entry's seat and pick
  pub confirms_where : (e : Entry) (placed : List ItemPlace) (more : ℕ) (b : Bool) → length es ≡ more + suc r.number → moves p (picks_of es) ≡ picks_of es → e ≡ get_or es r.number e → e.seat ≡ r.seat → e.pick ≡ r.pick
      → placed ≡ map item_place (answer p (picks_of es) r.number) → IsTrue b ↔ AreTold p (picks_of es) placed r.items.items → IsTrue b ↔ Confirms p es r
  confirms_where e placed more b size journal at seat pick there reported =
      let picks : List ℕ = picks_of es in
      let back : map (reported_at p picks) placed ≡ map Some (answer p picks r.number) =
      ap (map (reported_at p picks)) there ∙ answer_told p picks r.number more (ap length journal ∙ picks-length es ∙ size) in
      let whole : e ≡ entry r.seat r.pick = λ i. record { seat = seat i; pick = pick i } in (
        λ h. record {
          entered = slice_get_read es (length es) r.number e refl (omega arith) at ∙ ap Some whole;
          answered = some_same (map item_seen r.items.items) (answer p picks r.number) (sym (map_some r.items.items) ∙ sym (reported.0 h) ∙ back);
        },
        λ h. reported.1 (back ∙ ap (map Some) (sym h.answered) ∙ sym (map_some r.items.items)),
      )

-- the places of an entry of a record
pub placed_at : {V : Type 0} (p : Program) (picks : List ℕ) (n k more : ℕ) (items_of : V → List ItemPlace) (vs : List V) (v : V) → n ≡ more + suc k → map items_of vs ≡ item_places p picks n → k < length vs → v ≡ get_or vs k v
    → items_of v ≡ map item_place (answer p picks k)
placed_at p picks n k more items_of vs v size placed below at =
    get_map items_of vs k v [] below at ∙ ap (λ ps. get_or ps k []) placed ∙ places_at p picks n k more [] size

-- as many places as entries
pub placed-length : {V : Type 0} (p : Program) (picks : List ℕ) (n : ℕ) (items_of : V → List ItemPlace) (vs : List V) → map items_of vs ≡ item_places p picks n → length vs ≡ n
placed-length p picks n items_of vs placed = sym (length-map vs items_of) ∙ ap length placed ∙ places-length p picks n
