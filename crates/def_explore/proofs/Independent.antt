-- Picks that are independent of all others may go first, and journals by such picks alone have each run to rest.
use Rattle.std.proofs.Common.{◌≡◌, ◌<◌, ◌≤◌, ◌+◌, ◌⊎◌, inl, inr, ℕ, zero, suc, List, [], ◌∷◌, ◌++◌, length, Bool, true, false, refl, sym, ap, ◌∙◌, arith, append_assoc, append-nil, length-append, subst}
use Rattle.std.specs.Prelude.{All}
use Rattle.std.proofs.lemmas.List.Elements.{All-nil, All-cons}
use Rattle.def_term.specs.Names.{Name}
use Rattle.def_script.specs.Program.{Program}
use Rattle.def_run.specs.Run.{pick_step_after, moves}
use Rattle.def_run.proofs.Runs.{runs_grow}
use Rattle.def_explore.specs.Rests.{IsRestAfter, RunQuestion}
use Rattle.def_explore.specs.Alike.{IsStateAlike, HasStateOf, HasNext, is_pick_among, AreIndependent, HasFirstPicks, IsReduced}
use Rattle.def_explore.specs.Laws.{IndependentPicksGoFirst, ReducedJournalsHaveRests, ReducedJournalsAreComplete}
use Rattle.def_explore.proofs.Lists.{one_both}
use Rattle.def_explore.proofs.Alike.{goes_on, alike_back, idle_alike, moved_alike}
use Rattle.def_explore.proofs.Closed.{state_by, state_idle, rest_has_entry}

-- ---- the first of some picks among others

-- none of the picks is among these, or there is a first one that is
pub record Split (ts more : List ℕ) : Type 0 where
  pub others : List ℕ
  pub first : ℕ
  pub tail : List ℕ
  pub whole : more ≡ others ++ first ∷ tail
  pub apart : All (λ other. is_pick_among other ts ≡ false) others
  pub there : is_pick_among first ts ≡ true

pub split : (ts more : List ℕ) → All (λ other. is_pick_among other ts ≡ false) more ⊎ Split ts more
split ts [] = inl (All-nil (λ other. is_pick_among other ts ≡ false))
split ts (x ∷ more) = go (is_pick_among x ts) refl (split ts more)
  where
    go : (b : Bool) → is_pick_among x ts ≡ b → All (λ other. is_pick_among other ts ≡ false) more ⊎ Split ts more → All (λ other. is_pick_among other ts ≡ false) (x ∷ more) ⊎ Split ts (x ∷ more)
    go true e h = inr (record { others = []; first = x; tail = more; whole = refl; apart = All-nil (λ other. is_pick_among other ts ≡ false); there = e })
    go false e (inl h) = inl (All-cons (λ other. is_pick_among other ts ≡ false) x more e h)
    go false e (inr s) = inr (record { others = x ∷ s.others; first = s.first; tail = s.tail; whole = ap (λ xs. x ∷ xs) s.whole; apart = All-cons (λ other. is_pick_among other ts ≡ false) x s.others e s.apart; there = s.there })

both_ways : (b : Bool) → b ≡ true → b ≡ false → ⊥
both_ways b h k = cc

module _ (q : RunQuestion) (ss : List Name) (p : Program) (j : List ℕ) (ts : List ℕ) where
  abbrev pub GoesFirst : List ℕ → Type 0
  GoesFirst more = (t : ℕ) × (rest : List ℕ) × (is_pick_among t ts ≡ true) × (length rest + 1 ≡ length more) × IsStateAlike q ss p (j ++ more) (j ++ t ∷ rest)

  -- what was before has no more moves
  fewer : (more others tail : List ℕ) → more ≡ others ++ tail → length (moves p (j ++ more)) < 65536 → length (moves p (j ++ others)) < 65536
  fewer more others tail whole room =
      let apart : j ++ more ≡ (j ++ others) ++ tail = ap (λ xs. j ++ xs) whole ∙ sym (append_assoc j others tail) in
      let grows : (rest : List ℕ) × (moves p ((j ++ others) ++ tail) ≡ moves p (j ++ others) ++ rest) = runs_grow p (j ++ others) tail in
      let counted : length (moves p (j ++ more)) ≡ length (moves p (j ++ others)) + length grows.0 = ap (λ xs. length (moves p xs)) apart ∙ ap length grows.1 ∙ length-append (moves p (j ++ others)) grows.0 in
      omega arith

  pub by_split : (more : List ℕ) → AreIndependent q ss p j ts → (s : Split ts more) → length (moves p (j ++ s.others)) < 65536 → GoesFirst more
  by_split more h s room =
      let moved : IsStateAlike q ss p (j ++ s.others ++ s.first ∷ []) (j ++ s.first ∷ s.others) = (h s.others s.apart room s.first s.there).1 in
      let on : IsStateAlike q ss p ((j ++ s.others ++ s.first ∷ []) ++ s.tail) ((j ++ s.first ∷ s.others) ++ s.tail) = goes_on q ss p (j ++ s.others ++ s.first ∷ []) (j ++ s.first ∷ s.others) s.tail moved in
      let from : j ++ more ≡ ((j ++ s.others) ++ s.first ∷ []) ++ s.tail =
      ap (λ xs. j ++ xs) s.whole ∙ sym (append_assoc j s.others (s.first ∷ s.tail)) ∙ sym (append_assoc (j ++ s.others) (s.first ∷ []) s.tail) in
      let to : (j ++ s.first ∷ s.others) ++ s.tail ≡ j ++ s.first ∷ (s.others ++ s.tail) = append_assoc j (s.first ∷ s.others) s.tail in
      let all : length more ≡ length s.others + length (s.first ∷ s.tail) = ap length s.whole ∙ length-append s.others (s.first ∷ s.tail) in
      let less : length (s.others ++ s.tail) ≡ length s.others + length s.tail = length-append s.others s.tail in
      let counted : length (s.others ++ s.tail) + 1 ≡ length more = omega arith in (
        s.first,
        s.others ++ s.tail,
        s.there,
        counted,
        subst (λ xs. IsStateAlike q ss p xs (j ++ s.first ∷ (s.others ++ s.tail))) (sym from) (subst (IsStateAlike q ss p ((j ++ s.others ++ s.first ∷ []) ++ s.tail)) to on),
      )

  pub goes_first : (more : List ℕ) (one : ℕ) → is_pick_among one ts ≡ true → AreIndependent q ss p j ts → IsRestAfter p (j ++ more) → length (moves p (j ++ more)) < 65536 → GoesFirst more
  goes_first more one there h rests room = go (split ts more)
    where
      go : All (λ other. is_pick_among other ts ≡ false) more ⊎ Split ts more → GoesFirst more
      go (inl apart) = absurd (both_ways (pick_step_after p (j ++ more) one).moved (h more apart room one there).0 (rests one))
      go (inr s) = by_split more h s (fewer more s.others (s.first ∷ s.tail) s.whole room)

pub independent_go_first : IndependentPicksGoFirst
independent_go_first q ss p j more ts one there h rests room = goes_first q ss p j ts more one there h rests room

-- ---- journals by such picks alone

module _ (q : RunQuestion) (ss : List Name) (p : Program) (js : List (List ℕ)) (reduced : IsReduced q ss p js) where
  abbrev Reaches : ℕ → Type 0
  Reaches n = (a more : List ℕ) → length more ≤ n → length (moves p (a ++ more)) < 65536 → HasStateOf q ss p js a → IsRestAfter p (a ++ more) → HasStateOf q ss p js (a ++ more)

  rest_by : (a b : List ℕ) → IsStateAlike q ss p a b → IsRestAfter p b → IsRestAfter p a
  rest_by a b h rests pick = idle_alike q ss p a b pick h (rests pick)

  -- after all picks of a journal were tried
  by_all : (n : ℕ) → Reaches n → (j : List ℕ) → HasStateOf q ss p js j → HasNext q ss p js j → (more : List ℕ) → length more ≤ suc n → length (moves p (j ++ more)) < 65536 → IsRestAfter p (j ++ more) → HasStateOf q ss p js (j ++ more)
  by_all n ih j there all [] few room rests = subst (HasStateOf q ss p js) (sym (append-nil j)) there
  by_all n ih j there all (x ∷ more) few room rests = go (pick_step_after p j x).moved refl
    where
      apart : (j ++ x ∷ []) ++ more ≡ j ++ x ∷ more
      apart = append_assoc j (x ∷ []) more

      next : (b : Bool) → (pick_step_after p j x).moved ≡ b → HasStateOf q ss p js (j ++ x ∷ [])
      next true e = all x e
      next false e = state_idle q ss p js j x e there

      go : (b : Bool) → (pick_step_after p j x).moved ≡ b → HasStateOf q ss p js (j ++ x ∷ more)
      go b e = subst (HasStateOf q ss p js) apart (ih (j ++ x ∷ []) more (omega arith) (subst (λ xs. length (moves p xs) < 65536) (sym apart) room) (next b e) (subst (IsRestAfter p) (sym apart) rests))

  -- after picks that are independent of all others
  by_first : (n : ℕ) → Reaches n → (j : List ℕ) → HasFirstPicks q ss p js j → (more : List ℕ) → length more ≤ suc n → length (moves p (j ++ more)) < 65536 → IsRestAfter p (j ++ more) → HasStateOf q ss p js (j ++ more)
  by_first n ih j f more few room rests = go (goes_first q ss p j f.picks more f.one f.there f.independent rests room)
    where
      go : GoesFirst q ss p j f.picks more → HasStateOf q ss p js (j ++ more)
      go g =
          let t : ℕ = g.0 in
          let rest : List ℕ = g.1 in
          let apart : (j ++ t ∷ []) ++ rest ≡ j ++ t ∷ rest = append_assoc j (t ∷ []) rest in
          let alike : IsStateAlike q ss p (j ++ more) ((j ++ t ∷ []) ++ rest) = subst (IsStateAlike q ss p (j ++ more)) (sym apart) g.4 in
          let counted : length rest + 1 ≡ length more = g.3 in
          let there : HasStateOf q ss p js ((j ++ t ∷ []) ++ rest) =
          ih (j ++ t ∷ []) rest (omega arith) (subst (λ n. n < 65536) (moved_alike q ss p (j ++ more) ((j ++ t ∷ []) ++ rest) alike) room) (f.next t g.2) (rest_by ((j ++ t ∷ []) ++ rest) (j ++ more) (alike_back q ss p (j ++ more) ((j ++ t ∷ []) ++ rest) alike) rests) in
          state_by q ss p js (j ++ more) ((j ++ t ∷ []) ++ rest) alike there

  abbrev IsTried : List ℕ → Type 0
  IsTried j = HasNext q ss p js j ⊎ HasFirstPicks q ss p js j

  from_journal : (n : ℕ) → Reaches n → (j : List ℕ) → HasStateOf q ss p js j → IsTried j → (more : List ℕ) → length more ≤ suc n → length (moves p (j ++ more)) < 65536 → IsRestAfter p (j ++ more) → HasStateOf q ss p js (j ++ more)
  from_journal n ih j there (inl all) more few room rests = by_all n ih j there all more few room rests
  from_journal n ih j there (inr f) more few room rests = by_first n ih j f more few room rests

  from_state : (n : ℕ) → Reaches n → Reaches (suc n)
  from_state n ih a more few room s rests =
      let found : (j : List ℕ) × IsTried j × IsStateAlike q ss p a j = one_both IsTried (IsStateAlike q ss p a) js reduced s in
      let j : List ℕ = found.0 in
      let there : HasStateOf q ss p js j = state_by q ss p js j a (alike_back q ss p a j found.2) s in
      let alike : IsStateAlike q ss p (a ++ more) (j ++ more) = goes_on q ss p a j more found.2 in
      state_by q ss p js (a ++ more) (j ++ more) alike
      (from_journal n ih j there found.1 more few (subst (λ n. n < 65536) (moved_alike q ss p (a ++ more) (j ++ more) alike) room) (rest_by (j ++ more) (a ++ more) (alike_back q ss p (a ++ more) (j ++ more) alike) rests))

  nothing_more : Reaches zero
  nothing_more a [] few room s rests = subst (HasStateOf q ss p js) (sym (append-nil a)) s
  nothing_more a (x ∷ more) few room s rests = absurd (omega arith)

  reaches : (n : ℕ) → Reaches n
  reaches zero = nothing_more
  reaches (suc n) = from_state n (reaches n)

  pub rests_have_state : (before more : List ℕ) → HasStateOf q ss p js before → IsRestAfter p (before ++ more) → length (moves p (before ++ more)) < 65536 → HasStateOf q ss p js (before ++ more)
  rests_have_state before more there rests room = reaches (length more) before more (omega arith) room there rests

pub reduced_have_rests : ReducedJournalsHaveRests
reduced_have_rests q ss p js before more there reduced rests room = rests_have_state q ss p js reduced before more there rests room

pub reduced_are_complete : ReducedJournalsAreComplete
reduced_are_complete q ss p js before es there reduced entries more rests room =
    rest_has_entry q ss p js (before ++ more) es (rests_have_state q ss p js reduced before more there rests room) rests entries
