-- What is kept, looked up among the answers.
use Rattle.std.proofs.Common.{◌≡◌, inl, inr, ℕ, List, [], ◌∷◌, ◌++◌, Bool, true, false, Option, Some, None, refl, sym, ap, ◌∙◌, cond, subst}
use Rattle.std.specs.Prelude.{is_some}
use Rattle.std.specs.Map.{lookup}
use Rattle.std.specs.declared.vec.Vec.{Vec}
use Rattle.def_explore.specs.Rests.{KeptMessages}
use Rattle.def_explore.specs.Lists.{OneOf, EachOf}
use Rattle.tn_explore.specs.Query.{Query, kept_for}
use Rattle.tn_explore.specs.SearchStates.{KeepsFor, EqualsByKept}
use Rattle.tn_explore.specs.Searches.{answer_entry, answer_entries, AnswersEnd}
use Rattle.tn_explore.proofs.Lists.{map_both}
use Rattle.tn_explore.proofs.Tries.{both_ways}

module _ {A M : Type 0} (eq : M → M → Bool) (Seen : M → KeptMessages) (by_kept : EqualsByKept eq Seen) (m : M) where
  -- where it is found, one of the entries keeps the same
  lookup_has : (pairs : List (M × Vec ℕ A)) → is_some (lookup (eq m) pairs) ≡ true → OneOf (λ e. e.kept ≡ Seen m) (answer_entries Seen pairs)
  lookup_has [] h = absurd (both_ways false h refl)
  lookup_has (pair ∷ pairs) h = go (lookup_has pairs) (eq m pair.0) refl h
    where
      go : (is_some (lookup (eq m) pairs) ≡ true → OneOf (λ e. e.kept ≡ Seen m) (answer_entries Seen pairs)) → (b : Bool) → eq m pair.0 ≡ b → is_some (cond b (Some pair.1) (lookup (eq m) pairs)) ≡ true → OneOf (λ e. e.kept ≡ Seen m) (answer_entries Seen (pair ∷ pairs))
      go rest true e k = inl (sym ((by_kept m pair.0).0 e))
      go rest false e k = inr (rest k)

  -- where it isn't, none does
  lookup_lacks : (pairs : List (M × Vec ℕ A)) → is_some (lookup (eq m) pairs) ≡ false → EachOf (λ e. e.kept ≡ Seen m → ⊥) (answer_entries Seen pairs)
  lookup_lacks [] h = tt
  lookup_lacks (pair ∷ pairs) h = go (lookup_lacks pairs) (eq m pair.0) refl h
    where
      go : (is_some (lookup (eq m) pairs) ≡ false → EachOf (λ e. e.kept ≡ Seen m → ⊥) (answer_entries Seen pairs)) → (b : Bool) → eq m pair.0 ≡ b → is_some (cond b (Some pair.1) (lookup (eq m) pairs)) ≡ false → EachOf (λ e. e.kept ≡ Seen m → ⊥) (answer_entries Seen (pair ∷ pairs))
      go rest true e k = absurd (both_ways true refl k)
      go rest false e k = (λ same. both_ways (eq m pair.0) ((by_kept m pair.0).1 (sym same)) e, rest k)

  module _ {S : Type 0} (Journal : S → List ℕ) (IsOf : S → Query → Type 0) (s : S) (keeps : KeepsFor Journal IsOf Seen s m) where
    pub answered : (pairs : List (M × Vec ℕ A)) → is_some (lookup (eq m) pairs) ≡ true → AnswersEnd Journal IsOf s (answer_entries Seen pairs) (answer_entries Seen pairs)
    answered pairs h a is_of ends = inl (record { same = refl; has = λ again. subst (λ k. OneOf (λ e. e.kept ≡ k) (answer_entries Seen pairs)) (keeps a is_of) (lookup_has pairs h) })

    pub answers_more : (pairs new : List (M × Vec ℕ A)) (v : Vec ℕ A) → is_some (lookup (eq m) pairs) ≡ false → new ≡ pairs ++ (m, v) ∷ [] → v.items ≡ Journal s → AnswersEnd Journal IsOf s (answer_entries Seen pairs) (answer_entries Seen new)
    answers_more pairs new v lacks longer journal a is_of ends =
        let same : Seen m ≡ kept_for a (Journal s) = keeps a is_of in
        inr (record {
          longer = ap (answer_entries Seen) longer ∙ map_both (answer_entry Seen) pairs ((m, v) ∷ []) ∙ (λ i. answer_entries Seen pairs ++ record { kept = same i; journal = journal i } ∷ []);
          ends = ends;
          fresh = subst (λ k. EachOf (λ e. e.kept ≡ k → ⊥) (answer_entries Seen pairs)) same (lookup_lacks pairs lacks);
        })

pub none_if : {X : Type 0} (o : Option X) → is_some o ≡ false → o ≡ None
none_if None h = refl
none_if (Some x) h = absurd (both_ways true refl h)
