-- A state that is the same as one of a layer, and states that are added.
use Rattle.std.proofs.Common.{◌≡◌, ◌<◌, ◌≤◌, ◌⊎◌, length, get_or, inl, inr, ℕ, List, [], ◌∷◌, ◌++◌, map, Bool, true, false, refl, ap, arith, sym, subst, append-nil}
use Rattle.std.proofs.lemmas.Bool.{cases_lt}
use Rattle.std.specs.Prelude.{IsTrue, ◌↔◌, Some, not, slice_get}
use Rattle.std.specs.Option.{unwrap_or}
use Rattle.def_explore.proofs.Lists.{one_after, each_both}
use Rattle.def_explore.proofs.Alike.{alike_same}
use Rattle.tn_explore.specs.Query.{Query, AlikeFor, HasStateFor}
use Rattle.tn_explore.specs.SearchStates.{AreSame}
use Rattle.tn_explore.specs.Searches.{IsAt, AreAt, HasSame, AddsState, HasLayerRoom, IsLayerFull, MeetsFullJournal}
use Rattle.tn_explore.proofs.Lists.{one_at, each_at, one_mapped}
use Rattle.tn_explore.proofs.Tries.{both_ways}

module _ {S : Type 0} (Journal : S → List ℕ) (IsOf : S → Query → Type 0) where
  pub same_there : (ss : List S) (s t : S) (i : ℕ) (b : Bool) → i < length ss → t ≡ get_or ss i t → AreSame Journal IsOf s t b → IsTrue b → HasSame Journal IsOf ss s true
  same_there ss s t i b below e alike h tru a depth at is_of =
      let there : IsAt Journal IsOf a depth t = subst (IsAt Journal IsOf a depth) (sym e) (each_at (IsAt Journal IsOf a depth) ss i t below at) in
      one_mapped (AlikeFor a (Journal s)) Journal ss
      (one_at (λ u. AlikeFor a (Journal s) (Journal u)) ss i t below (subst (λ u. AlikeFor a (Journal s) (Journal u)) e (alike h a is_of there.is_of)))

  -- a state that is there isn't added
  pub present : (ss : List S) (s : S) (a : Query) (depth : ℕ) → HasSame Journal IsOf ss s true → AreAt Journal IsOf a depth ss → IsAt Journal IsOf a depth s → AddsState Journal IsOf a depth s ss ss
  present ss s a depth has at here = record { more = []; longer = sym (append-nil ss); at = at; has = has refl a depth at here.is_of }

  pub absent : (ss new : List S) (s : S) (a : Query) (depth : ℕ) → new ≡ ss ++ s ∷ [] → AreAt Journal IsOf a depth ss → IsAt Journal IsOf a depth s → AddsState Journal IsOf a depth s ss new
  absent ss new s a depth longer at here = record {
    more = s ∷ [];
    longer = longer;
    at = subst (AreAt Journal IsOf a depth) (sym longer) (each_both (IsAt Journal IsOf a depth) ss (s ∷ []) at (here, tt));
    has = subst (λ xs. HasStateFor a (map Journal xs) (Journal s)) (sym longer)
        (one_mapped (AlikeFor a (Journal s)) Journal (ss ++ s ∷ []) (one_after (λ u. AlikeFor a (Journal s) (Journal u)) ss (s ∷ []) (inl (alike_same a.question a.sessions a.program (Journal s) (Journal s) refl))));
  }

  -- where it has none, a run that is followed meets a full journal
  full_met : (a : Query) (depth : ℕ) (ss : List S) (b : Bool) → AreAt Journal IsOf a depth ss → HasLayerRoom Journal ss b → b ≡ false → MeetsFullJournal a
  full_met a depth [] b at h false_is = absurd (both_ways b h false_is)
  full_met a depth (x ∷ xs) b at h false_is = (Journal x, at.0.from, go (cases_lt (length (Journal x)) 65536))
    where
      go : (length (Journal x) < 65536) ⊎ (65536 ≤ length (Journal x)) → 65536 ≤ length (Journal x)
      go (inl below) = absurd (both_ways b (h.1 below) false_is)
      go (inr full) = full

  pub full_layer : (left : Bool) (a : Query) (depth : ℕ) (ss : List S) (full : Bool) → AreAt Journal IsOf a depth ss → IsLayerFull left Journal ss full → full ≡ true → MeetsFullJournal a
  full_layer false a depth ss full at h e = absurd (both_ways full e h)
  full_layer true a depth ss full at h e = full_met a depth ss (not full) at h (ap not e)

  -- where it isn't full, it has room or no state
  pub room_left : (left : Bool) (a : Query) (depth : ℕ) (ss : List S) (full : Bool) → AreAt Journal IsOf a depth ss → IsLayerFull left Journal ss full → full ≡ false → left ≡ true → (ss ≡ []) ⊎ (depth < 65536)
  room_left false a depth ss full at h rest out = absurd (both_ways false out refl)
  room_left true a depth [] full at h rest out = inl refl
  room_left true a depth (x ∷ xs) full at h rest out =
      let long : length (Journal x) ≡ depth = at.0.long in
      let room : length (Journal x) < 65536 = h.0 (ap not rest) in
      inr (omega (arith, room, long))

-- only where picks are left out
pub left_where_full : {S : Type 0} (Journal : S → List ℕ) (left : Bool) (ss : List S) (full : Bool) → IsLayerFull left Journal ss full → full ≡ true → left ≡ true
left_where_full Journal false ss full h e = absurd (both_ways full e h)
left_where_full Journal true ss full h e = refl

-- a layer has room exactly where the journal of its first state has
pub room_at : {S : Type 0} (Journal : S → List ℕ) (ss : List S) (s : S) (b : Bool) → Some s ≡ slice_get ss 0 → IsTrue b ↔ (length (Journal s) < 65536) → HasLayerRoom Journal ss b
room_at Journal [] s b is room = cc
room_at Journal (x ∷ xs) s b is room = subst (λ t. IsTrue b ↔ (length (Journal t) < 65536)) (ap (λ o. unwrap_or o s) is) room
