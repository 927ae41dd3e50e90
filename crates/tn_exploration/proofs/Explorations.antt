-- What is written of a search.
use Rattle.std.proofs.Common.{◌≡◌, ◌∙◌, ℕ, ◌+◌, ◌<◌, ◌≤◌, ◌&&◌, Bool, true, false, List, [], ◌∷◌, ◌++◌, length, map, take, get_or, refl, sym, ap, subst, append-nil, append_assoc, arith}
use Rattle.std.proofs.lemmas.List.{take_more, take_all, map-append}
use Rattle.std.specs.Prelude.{◌||◌}
use Rattle.def_script.specs.Program.{Program}
use Rattle.def_run.specs.Round.{is_empty}
use Rattle.tn_moves.specs.Schedules.{schedule_seen, AreMovesOf}
use Rattle.tn_exploration.specs.Requests.{IsSearchText, AreSearchTexts, AddsSearch, AddsSearches, groups_of, IsExplorationFrom, IsExploration}
use Rattle.tn_exploration.specs.declared.request.ExploreRequest.{ExploreRequest}
use Rattle.tn_exploration.specs.declared.request.ExploreOutcome.{ExploreOutcome}
use Rattle.tn_exploration.specs.declared.request.ExploreOutcome.TheVariants.{Complete, Incomplete, Unmet, NoSession, Refused}
use Rattle.tn_exploration.specs.declared.searches.SearchEnd.{SearchEnd}

pub no_places : (places : List ℕ) → length places ≡ 0 → is_empty places ≡ true
no_places [] none = refl
no_places (n ∷ ns) none = absurd (omega arith)

-- ---- texts one after another

module _ (q : ExploreRequest) (p : Program) (before : List ℕ) where
  last_and : (w wa : Bool) → w ≡ true → (w && wa) ≡ (wa && true)
  last_and w true is = ap (λ b. b && true) is
  last_and true false is = refl
  last_and false false is = refl

  and_more : (x y z w : Bool) → w ≡ (x && y) → (w && z) ≡ (x && (y && z))
  and_more true y z w is = ap (λ b. b && z) is
  and_more false y z w is = ap (λ b. b && z) is

  last_or : (r ra : Bool) → r ≡ false → (r || ra) ≡ (ra || false)
  last_or r true is = ap (λ b. b || true) is
  last_or r false is = ap (λ b. b || false) is

  or_more : (x y z r : Bool) → r ≡ (x || y) → (r || z) ≡ (x || (y || z))
  or_more true y z r is = ap (λ b. b || z) is
  or_more false y z r is = ap (λ b. b || z) is

  texts_more : (groups : List (List ℕ)) (places text a : List ℕ) (w wa r ra : Bool) → AreSearchTexts q p before groups text w r → IsSearchText q p before places a wa ra
      → AreSearchTexts q p before (groups ++ places ∷ []) (text ++ a) (w && wa) (r || ra)
  texts_more [] places text a w wa r ra (none, all, met) one = (
    record { text = a; settled = wa; unmet = ra },
    record { text = []; settled = true; unmet = false },
    one,
    (refl, refl, refl),
    ap (λ t. t ++ a) none ∙ sym (append-nil a),
    last_and w wa all,
    last_or r ra met,
  )
  texts_more (g ∷ gs) places text a w wa r ra (x, y, first, others, is, both, either) one = (
    x,
    record { text = y.text ++ a; settled = y.settled && wa; unmet = y.unmet || ra },
    first,
    texts_more gs places y.text a y.settled wa y.unmet ra others one,
    ap (λ t. t ++ a) is ∙ append_assoc x.text y.text a,
    and_more x.settled y.settled wa w both,
    or_more x.unmet y.unmet ra r either,
  )

  -- no text yet
  pub no_searches : (old : List ℕ) → AddsSearches q p before [] old old (record { is_settled = true; is_unmet = false })
  no_searches old = ([], (refl, refl, refl), sym (append-nil old))

  -- one more
  pub search_more : (groups : List (List ℕ)) (places old mid new : List ℕ) (e one both : SearchEnd) → both.is_settled ≡ (e.is_settled && one.is_settled) → both.is_unmet ≡ (e.is_unmet || one.is_unmet)
      → AddsSearches q p before groups old mid e → AddsSearch q p before places mid new one → AddsSearches q p before (groups ++ places ∷ []) old new both
  search_more groups places old mid new e one both whole refuted (text, are, longer) (a, is, more) = (
    text ++ a,
    subst (λ b. AreSearchTexts q p before (groups ++ places ∷ []) (text ++ a) b both.is_unmet) (sym whole)
        (subst (AreSearchTexts q p before (groups ++ places ∷ []) (text ++ a) (e.is_settled && one.is_settled)) (sym refuted)
        (texts_more groups places text a e.is_settled one.is_settled e.is_unmet one.is_unmet are is)),
    more ∙ ap (λ t. t ++ a) longer ∙ append_assoc old text a,
  )

  -- that of the session at the next place
  pub place_search_more : (places : List ℕ) (i : ℕ) (old mid new : List ℕ) (e one both : SearchEnd) → both.is_settled ≡ (e.is_settled && one.is_settled) → both.is_unmet ≡ (e.is_unmet || one.is_unmet) → i < length places
      → AddsSearches q p before (map (λ n. n ∷ []) (take i places)) old mid e → AddsSearch q p before (get_or places i 0 ∷ []) mid new one → AddsSearches q p before (map (λ n. n ∷ []) (take (i + 1) places)) old new both
  place_search_more places i old mid new e one both whole refuted below so_far is =
      subst (λ gs. AddsSearches q p before gs old new both)
      (sym (ap (map (λ n. n ∷ [])) (take_more places i 0 below) ∙ map-append (λ n. n ∷ []) (take i places) (get_or places i 0 ∷ [])))
      (search_more (map (λ n. n ∷ []) (take i places)) (get_or places i 0 ∷ []) old mid new e one both whole refuted so_far is)

  pub all_searches : (places : List ℕ) (i : ℕ) (old new : List ℕ) (e : SearchEnd) → length places ≤ i → AddsSearches q p before (map (λ n. n ∷ []) (take i places)) old new e
      → AddsSearches q p before (map (λ n. n ∷ []) places) old new e
  all_searches places i old new e past so_far = subst (λ ns. AddsSearches q p before (map (λ n. n ∷ []) ns) old new e) (take_all i places past) so_far

  -- where no session is asked about
  pub one_group : (places old new : List ℕ) (e : SearchEnd) → is_empty places ≡ true → AddsSearch q p before places old new e → AddsSearches q p before (groups_of places) old new e
  one_group [] old new e is one = search_more [] [] old old new (record { is_settled = true; is_unmet = false }) e e refl refl (no_searches old) one
  one_group (n ∷ ns) old new e is one = cc

  pub each_group : (places old new : List ℕ) (e : SearchEnd) → is_empty places ≡ false → AddsSearches q p before (map (λ n. n ∷ []) places) old new e → AddsSearches q p before (groups_of places) old new e
  each_group [] old new e is many = cc
  each_group (n ∷ ns) old new e is many = many

  -- a text that began empty
  pub texts_of : (groups : List (List ℕ)) (old new : List ℕ) (e : SearchEnd) → old ≡ [] → AddsSearches q p before groups old new e → AreSearchTexts q p before groups new e.is_settled e.is_unmet
  texts_of groups old new e began (text, are, longer) = subst (λ t. AreSearchTexts q p before groups t e.is_settled e.is_unmet) (sym (longer ∙ ap (λ t. t ++ text) began)) are

-- by the moves that are asked for
pub asked_exploration : (q : ExploreRequest) (p : Program) (before : List ℕ) (outcome : ExploreOutcome) (text : List ℕ) → AreMovesOf (schedule_seen q.schedule) p before → IsExplorationFrom q p before outcome text → IsExploration q p outcome text
asked_exploration q p before Complete text made is = record { before = before; made = made; exploration = is }
asked_exploration q p before Incomplete text made is = record { before = before; made = made; exploration = is }
asked_exploration q p before Unmet text made is = record { before = before; made = made; exploration = is }
asked_exploration q p before NoSession text made is = record { before = before; made = made; exploration = is }
asked_exploration q p before (Refused r) text made is = absurd is
