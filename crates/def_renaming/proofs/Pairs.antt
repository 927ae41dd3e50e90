-- Pairs that are one to one, and one more.
use Rattle.std.proofs.Common.{◌≡◌, ◌≢◌, ◌∙◌, sym, ap, ap₂, subst, ℕ, ◌<◌, ◌==◌, inl, inr, true, false, List, [], ◌∷◌, ◌++◌, length, get_or, AllPairs, Contains, find, Option, Some, None, eqb-true, eq-eqb, refl}
use Rattle.std.proofs.lemmas.Bool.{cases_order, and_parts, and_from, or_cases, or_parts, eqb-false, cond-true}
use Rattle.std.proofs.lemmas.List.{get_or_default}
use Rattle.std.proofs.lemmas.List.Elements.{Contains-get_or, Contains-append_left, Contains-push, Contains-push_cases}
use Rattle.std.proofs.lemmas.List.Quantifiers.{all_pairs_push}
use Rattle.std.proofs.lemmas.Option.{cond_some}
use Rattle.def_renaming.specs.Renaming.{IsOneToOne, is_pair, has_either, with_pair, with_pair_by}
use Rattle.def_renaming.specs.Laws.{HasPairsOf}
use Rattle.def_renaming.proofs.Lists.{found, none_found}

-- ---- one partner

-- where no two pairs have the same on one side, two that have are at one place
same_pair : (side : ℕ × ℕ → ℕ) (ps : List (ℕ × ℕ)) (p q : ℕ × ℕ) → AllPairs (λ x y. side x ≢ side y) ps → Contains ps p → Contains ps q → side p ≡ side q → p ≡ q
same_pair side ps p q apart h k e =
    elim (cases_order h.0 k.0) [
      | inl same ↦ sym h.2 ∙ get_or_default ps h.0 p q h.1 ∙ ap (λ i. get_or ps i q) same ∙ k.2
      | inr other ↦ elim other [
        | inl before ↦ absurd (apart h.0 k.0 p before k.1 (ap side h.2 ∙ e ∙ sym (ap side (get_or_default ps k.0 p q k.1 ∙ k.2))))
        | inr after ↦ absurd (apart k.0 h.0 q after h.1 (ap side k.2 ∙ sym e ∙ sym (ap side (get_or_default ps h.0 q p h.1 ∙ h.2))))
      ]
    ]

-- a pair that has one of the two pids of another is that one
pub one_partner : (ps : List (ℕ × ℕ)) (p : ℕ × ℕ) (m n : ℕ) → IsOneToOne ps → Contains ps p → Contains ps (m, n) → has_either m n p ≡ true → p ≡ (m, n)
one_partner ps p m n one h k e =
    elim (or_cases (p.0 == m) (p.1 == n) e) [
      | inl there ↦ same_pair (λ x. x.0) ps p (m, n) one.there h k (eqb-true p.0 m there)
      | inr here ↦ same_pair (λ x. x.1) ps p (m, n) one.here h k (eqb-true p.1 n here)
    ]

-- ---- tests

same_both : (p : ℕ × ℕ) (m n : ℕ) → p.0 ≡ m → p.1 ≡ n → p ≡ (m, n)
same_both p m n e f = ap₂ (λ (x y : ℕ). let pair : ℕ × ℕ = (x, y) in pair) e f

pub is_pair-true : (m n : ℕ) (p : ℕ × ℕ) → is_pair m n p ≡ true → p ≡ (m, n)
is_pair-true m n p e = let both = and_parts (p.0 == m) (p.1 == n) e in same_both p m n (eqb-true p.0 m both.0) (eqb-true p.1 n both.1)

pub pair-is_pair : (m n : ℕ) (p : ℕ × ℕ) → p ≡ (m, n) → is_pair m n p ≡ true
pair-is_pair m n p e = and_from (p.0 == m) (p.1 == n) (eq-eqb p.0 m (ap (λ x. x.0) e)) (eq-eqb p.1 n (ap (λ x. x.1) e))

-- ---- one more pair

pub has_itself : (ps : List (ℕ × ℕ)) → HasPairsOf ps ps
has_itself ps p h = h

pub has_both : (ps qs rs : List (ℕ × ℕ)) → HasPairsOf ps qs → HasPairsOf qs rs → HasPairsOf ps rs
has_both ps qs rs f g p h = f p (g p h)

-- what one more pair leaves: all pairs and this one, one to one as before
pub record IsMore (ps qs : List (ℕ × ℕ)) (m n : ℕ) : Type 0 where
  pub one : IsOneToOne ps → IsOneToOne qs
  pub has : HasPairsOf qs ps
  pub new : Contains qs (m, n)

-- where none has one of the two pids
pushed_one : (ps : List (ℕ × ℕ)) (m n : ℕ) → find (has_either m n) ps ≡ None → IsOneToOne ps → IsOneToOne (ps ++ (m, n) ∷ [])
pushed_one ps m n none one =
    let apart : (k : ℕ) (d : ℕ × ℕ) → k < length ps → has_either m n (get_or ps k d) ≡ false = λ k d below. none_found (has_either m n) ps none (get_or ps k d) (Contains-get_or ps k d below) in
    record {
      there = all_pairs_push (λ p q. p.0 ≢ q.0) ps (m, n) one.there (λ k d below. eqb-false (get_or ps k d).0 m (or_parts ((get_or ps k d).0 == m) ((get_or ps k d).1 == n) (apart k d below)).0);
      here = all_pairs_push (λ p q. p.1 ≢ q.1) ps (m, n) one.here (λ k d below. eqb-false (get_or ps k d).1 n (or_parts ((get_or ps k d).0 == m) ((get_or ps k d).1 == n) (apart k d below)).1);
    }

joined_by_sound : (ps qs : List (ℕ × ℕ)) (m n : ℕ) (o : Option (ℕ × ℕ)) → find (has_either m n) ps ≡ o → with_pair_by ps m n o ≡ Some qs → IsMore ps qs m n
joined_by_sound ps qs m n None f e =
    let same : ps ++ (m, n) ∷ [] ≡ qs = cc in
    subst (λ xs. IsMore ps xs m n) same (record {
      one = pushed_one ps m n f;
      has = λ p h. Contains-append_left ps ((m, n) ∷ []) p h;
      new = Contains-push ps (m, n);
    })
joined_by_sound ps qs m n (Some p) f e =
    let both = cond_some (is_pair m n p) ps qs e in
    subst (λ xs. IsMore ps xs m n) both.1 (record {
      one = λ one. one;
      has = has_itself ps;
      new = subst (Contains ps) (is_pair-true m n p both.0) (found (has_either m n) ps p f).0;
    })

pub joined_sound : (ps qs : List (ℕ × ℕ)) (m n : ℕ) → with_pair ps m n ≡ Some qs → IsMore ps qs m n
joined_sound ps qs m n e = joined_by_sound ps qs m n (find (has_either m n) ps) refl e

joined_by_least : (ps rs : List (ℕ × ℕ)) (m n : ℕ) (o : Option (ℕ × ℕ)) → find (has_either m n) ps ≡ o → IsOneToOne rs → HasPairsOf rs ps → Contains rs (m, n)
    → (qs : List (ℕ × ℕ)) × (with_pair_by ps m n o ≡ Some qs) × HasPairsOf rs qs
joined_by_least ps rs m n None f one has new =
    (ps ++ (m, n) ∷ [], refl, λ p h. elim (Contains-push_cases ps (m, n) p h) [ inl old ↦ has p old | inr same ↦ subst (Contains rs) same new ])
joined_by_least ps rs m n (Some p) f one has new =
    let at = found (has_either m n) ps p f in
    (ps, cond-true (is_pair m n p) (Some ps) None (pair-is_pair m n p (one_partner rs p m n one (has p at.0) new at.1)), has)

pub joined_least : (ps rs : List (ℕ × ℕ)) (m n : ℕ) → IsOneToOne rs → HasPairsOf rs ps → Contains rs (m, n)
    → (qs : List (ℕ × ℕ)) × (with_pair ps m n ≡ Some qs) × HasPairsOf rs qs
joined_least ps rs m n one has new = joined_by_least ps rs m n (find (has_either m n) ps) refl one has new
