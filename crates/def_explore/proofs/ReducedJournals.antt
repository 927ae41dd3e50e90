-- Journals after which all picks are tried, or picks alone that are independent of all others, have each run that is followed to its end.
use Rattle.std.proofs.Common.{◌≡◌, ◌<◌, ◌≤◌, ◌+◌, ◌⊎◌, inl, inr, ℕ, zero, suc, List, [], ◌∷◌, ◌++◌, length, Bool, true, false, Some, refl, sym, ap, ◌∙◌, arith, append_assoc, append-nil, length-append, subst, cond}
use Rattle.std.specs.Prelude.{All}
use Rattle.std.proofs.lemmas.List.Elements.{All-pop}
use Rattle.def_term.specs.Names.{Name}
use Rattle.def_script.specs.Program.{Program}
use Rattle.def_run.specs.Run.{start, run_state_of, pick_step_after, moves_from, moves}
use Rattle.def_run.proofs.Appends.{moves-append}
use Rattle.def_explore.specs.Rests.{IsMovingAfter, IsRestAfter, RunQuestion, KeptMessages, kept_in}
use Rattle.def_explore.specs.Alike.{IsStateAlike, HasStateOf, HasNext, is_pick_among}
use Rattle.def_explore.specs.RunsToEnd.{IsFollowed, IsEndAfter, IsRunToEnd, HasNextWithin, HasFirstPicksWithin, IsTriedWithin, IsReducedWithin, AreBelowLimit}
use Rattle.def_explore.specs.Laws.{ReducedJournalsBoundRuns, ReducedJournalsHaveEnds, ReducedEndsAreComplete, ReducedEndsAreShortest}
use Rattle.def_explore.proofs.Lists.{one_both}
use Rattle.def_explore.proofs.Alike.{goes_on, alike_back, idle_alike, moved_alike}
use Rattle.def_explore.proofs.Closed.{state_by, state_idle, end_has_entry, end_is_no_shorter}
use Rattle.def_explore.proofs.RunsToEnd.{followed_alike, run_alike}
use Rattle.def_explore.proofs.Independent.{Split, split, by_split, GoesFirst, goes_first}

-- ---- the last of some picks

-- a pick and more are some picks and a last one
last_apart : (x : ℕ) (xs : List ℕ) → (front : List ℕ) × (last : ℕ) × (x ∷ xs ≡ front ++ last ∷ [])
last_apart x [] = ([], x, refl)
last_apart x (y ∷ ys) =
    let rest : (front : List ℕ) × (last : ℕ) × (y ∷ ys ≡ front ++ last ∷ []) = last_apart y ys in
    (x ∷ rest.0, rest.1, ap (λ zs. x ∷ zs) rest.2)

module _ (p : Program) (a : List ℕ) (x : ℕ) where
  moved_by : (b : Bool) → (pick_step_after p a x).moved ≡ b → length (moves p (a ++ x ∷ [])) ≡ length (moves p a) + length (cond b (x ∷ []) [])
  moved_by b e =
      ap length (moves-append p.functions (start p) a (x ∷ []))
      ∙ length-append (moves p a) (moves_from p.functions (run_state_of p a) (x ∷ []))
      ∙ ap (λ c. length (moves p a) + length (cond c (x ∷ []) [] ++ [])) e
      ∙ ap (λ xs. length (moves p a) + length xs) (append-nil (cond b (x ∷ []) []))

  -- a pick moves once at most
  one_at_most : length (moves p (a ++ x ∷ [])) ≤ length (moves p a) + 1
  one_at_most = go (pick_step_after p a x).moved refl
    where
      go : (b : Bool) → (pick_step_after p a x).moved ≡ b → length (moves p (a ++ x ∷ [])) ≤ length (moves p a) + 1
      go true e = omega (arith, moved_by true e)
      go false e = omega (arith, moved_by false e)

  -- and once where it moves
  one_more : IsMovingAfter p a x → length (moves p (a ++ x ∷ [])) ≡ length (moves p a) + 1
  one_more h = moved_by true h

-- ---- no run fills the journal

module _ (admits : KeptMessages → Bool) (q : RunQuestion) (ss : List Name) (p : Program) (js : List (List ℕ)) (reduced : IsReducedWithin admits q ss p js) (below : AreBelowLimit p js) where
  followed_all : ((kept : KeptMessages) → admits kept ≡ true) → (a more : List ℕ) → IsFollowed admits q ss p a more
  followed_all all a [] = tt
  followed_all all a (x ∷ more) = (all (kept_in q ss p a), followed_all all (a ++ x ∷ []) more)

  abbrev IsBelow : List ℕ → Type 0
  IsBelow a = length (moves p a) < 65536

  below_by : (a b : List ℕ) → IsStateAlike q ss p a b → IsBelow b → IsBelow a
  below_by a b h = subst (λ n. n < 65536) (sym (moved_alike q ss p a b h))

  below_at : (a : List ℕ) → HasStateOf q ss p js a → IsBelow a
  below_at a s =
      let there : (j : List ℕ) × (length (moves p j) < 65536) × IsStateAlike q ss p a j = one_both (λ j. length (moves p j) < 65536) (IsStateAlike q ss p a) js below s in
      below_by a there.0 there.2 there.1

  -- the state after a pick that is tried
  next_state : (j : List ℕ) (x : ℕ) → HasStateOf q ss p js j → HasNext q ss p js j → HasStateOf q ss p js (j ++ x ∷ [])
  next_state j x there all = go (pick_step_after p j x).moved refl
    where
      go : (b : Bool) → (pick_step_after p j x).moved ≡ b → HasStateOf q ss p js (j ++ x ∷ [])
      go true e = all x e
      go false e = state_idle q ss p js j x e there

  abbrev Bounds : ℕ → Type 0
  Bounds n = (a more : List ℕ) → length more ≤ n → HasStateOf q ss p js a → IsFollowed admits q ss p a more → IsBelow (a ++ more)

  module _ (n : ℕ) (ih : Bounds n) (j : List ℕ) (there : HasStateOf q ss p js j) where
    bound_nothing : IsBelow (j ++ [])
    bound_nothing = subst IsBelow (sym (append-nil j)) (below_at j there)

    bound_all : HasNextWithin admits q ss p js j → (more : List ℕ) → length more ≤ suc n → IsFollowed admits q ss p j more → IsBelow (j ++ more)
    bound_all next [] few followed = bound_nothing
    bound_all next (x ∷ more) few followed = subst IsBelow (append_assoc j (x ∷ []) more) (ih (j ++ x ∷ []) more (omega arith) (next_state j x there (next followed.0)) followed.1)

    module _ (f : HasFirstPicksWithin admits q ss p js j) where
      abbrev first : List ℕ
      first = f.first.picks

      -- where a first pick is among them
      bound_split : (more : List ℕ) → length more ≤ suc n → Split first more → IsBelow (j ++ more)
      bound_split more few s =
          let counted : length more ≡ length s.others + length (s.first ∷ s.tail) = ap length s.whole ∙ length-append s.others (s.first ∷ s.tail) in
          let room : IsBelow (j ++ s.others) = ih j s.others (omega arith) there (followed_all f.all j s.others) in
          let g : GoesFirst q ss p j first more = by_split q ss p j first more f.first.independent s room in
          let shorter : length g.1 + 1 ≡ length more = g.3 in
          let front : IsBelow ((j ++ g.0 ∷ []) ++ g.1) = ih (j ++ g.0 ∷ []) g.1 (omega arith) (f.first.next g.0 g.2) (followed_all f.all (j ++ g.0 ∷ []) g.1) in
          below_by (j ++ more) (j ++ g.0 ∷ g.1) g.4 (subst IsBelow (append_assoc j (g.0 ∷ []) g.1) front)

      -- where none is: one of them would move after all but the last
      bound_apart : (more : List ℕ) → length more ≤ suc n → All (λ other. is_pick_among other first ≡ false) more → IsBelow (j ++ more)
      bound_apart [] few apart = bound_nothing
      bound_apart (x ∷ xs) few apart =
          let last : (front : List ℕ) × (last : ℕ) × (x ∷ xs ≡ front ++ last ∷ []) = last_apart x xs in
          let front : List ℕ = last.0 in
          let one : ℕ = f.first.one in
          let counted : length (x ∷ xs) ≡ length front + length (last.1 ∷ []) = ap length last.2 ∙ length-append front (last.1 ∷ []) in
          let few_front : length front ≤ n = omega arith in
          let others : All (λ other. is_pick_among other first ≡ false) front = (All-pop (λ other. is_pick_among other first ≡ false) (x ∷ xs) front (Some last.1) last.2 apart).0 in
          let room : IsBelow (j ++ front) = ih j front few_front there (followed_all f.all j front) in
          let independent : IsMovingAfter p (j ++ front) one × IsStateAlike q ss p (j ++ front ++ one ∷ []) (j ++ one ∷ front) = f.first.independent front others room one f.first.there in
          let ahead : IsBelow ((j ++ one ∷ []) ++ front) = ih (j ++ one ∷ []) front few_front (f.first.next one f.first.there) (followed_all f.all (j ++ one ∷ []) front) in
          let after : IsBelow (j ++ front ++ one ∷ []) = below_by (j ++ front ++ one ∷ []) (j ++ one ∷ front) independent.1 (subst IsBelow (append_assoc j (one ∷ []) front) ahead) in
          let more : length (moves p ((j ++ front) ++ one ∷ [])) ≡ length (moves p (j ++ front)) + 1 = one_more p (j ++ front) one independent.0 in
          let less : length (moves p ((j ++ front) ++ last.1 ∷ [])) ≤ length (moves p (j ++ front)) + 1 = one_at_most p (j ++ front) last.1 in
          let whole : length (moves p (j ++ x ∷ xs)) ≡ length (moves p ((j ++ front) ++ last.1 ∷ [])) = ap (λ xs. length (moves p xs)) (ap (λ xs. j ++ xs) last.2 ∙ sym (append_assoc j front (last.1 ∷ []))) in
          omega arith

      bound_first : (more : List ℕ) → length more ≤ suc n → IsBelow (j ++ more)
      bound_first more few = go (split first more)
        where
          go : All (λ other. is_pick_among other first ≡ false) more ⊎ Split first more → IsBelow (j ++ more)
          go (inl apart) = bound_apart more few apart
          go (inr s) = bound_split more few s

    bound_tried : IsTriedWithin admits q ss p js j → (more : List ℕ) → length more ≤ suc n → IsFollowed admits q ss p j more → IsBelow (j ++ more)
    bound_tried (inl next) more few followed = bound_all next more few followed
    bound_tried (inr f) more few followed = bound_first f more few

  -- what is alike to a journal that is tried
  abbrev Found : List ℕ → Type 0
  Found a = (j : List ℕ) × IsTriedWithin admits q ss p js j × IsStateAlike q ss p a j

  found_at : (a : List ℕ) → HasStateOf q ss p js a → Found a
  found_at a s = one_both (IsTriedWithin admits q ss p js) (IsStateAlike q ss p a) js reduced s

  back_at : (a : List ℕ) → HasStateOf q ss p js a → (f : Found a) → HasStateOf q ss p js f.0
  back_at a s f = state_by q ss p js f.0 a (alike_back q ss p a f.0 f.2) s

  bounds_next : (n : ℕ) → Bounds n → Bounds (suc n)
  bounds_next n ih a more few s followed =
      let f : Found a = found_at a s in
      below_by (a ++ more) (f.0 ++ more) (goes_on q ss p a f.0 more f.2)
      (bound_tried n ih f.0 (back_at a s f) f.1 more few (followed_alike admits q ss p more f.0 a (alike_back q ss p a f.0 f.2) followed))

  bounds_nothing : Bounds zero
  bounds_nothing a [] few s followed = subst IsBelow (sym (append-nil a)) (below_at a s)
  bounds_nothing a (x ∷ more) few s followed = absurd (omega arith)

  bounds : (n : ℕ) → Bounds n
  bounds zero = bounds_nothing
  bounds (suc n) = bounds_next n (bounds n)

  pub runs_below : (a more : List ℕ) → HasStateOf q ss p js a → IsFollowed admits q ss p a more → length (moves p (a ++ more)) < 65536
  runs_below a more s followed = bounds (length more) a more (omega arith) s followed

  -- ---- each run that is followed to its end is there

  abbrev Reaches : ℕ → Type 0
  Reaches n = (a more : List ℕ) → length more ≤ n → HasStateOf q ss p js a → IsRunToEnd admits q ss p a more → HasStateOf q ss p js (a ++ more)

  rest_of : ((kept : KeptMessages) → admits kept ≡ true) → (a : List ℕ) → IsEndAfter admits q ss p a → IsRestAfter p a
  rest_of all a (inl rests) = rests
  rest_of all a (inr out) = absurd (apart (admits (kept_in q ss p a)) (all (kept_in q ss p a)) out)
    where
      apart : (b : Bool) → b ≡ true → b ≡ false → ⊥
      apart b h k = cc

  module _ (n : ℕ) (ih : Reaches n) (j : List ℕ) (there : HasStateOf q ss p js j) where
    reach_all : HasNextWithin admits q ss p js j → (more : List ℕ) → length more ≤ suc n → IsRunToEnd admits q ss p j more → HasStateOf q ss p js (j ++ more)
    reach_all next [] few run = subst (HasStateOf q ss p js) (sym (append-nil j)) there
    reach_all next (x ∷ more) few run =
        let apart : (j ++ x ∷ []) ++ more ≡ j ++ x ∷ more = append_assoc j (x ∷ []) more in
        subst (HasStateOf q ss p js) apart
        (ih (j ++ x ∷ []) more (omega arith) (next_state j x there (next run.followed.0)) (record { followed = run.followed.1; ends = subst (IsEndAfter admits q ss p) (sym apart) run.ends }))

    reach_first : HasFirstPicksWithin admits q ss p js j → (more : List ℕ) → length more ≤ suc n → IsRunToEnd admits q ss p j more → HasStateOf q ss p js (j ++ more)
    reach_first f more few run =
        let rests : IsRestAfter p (j ++ more) = rest_of f.all (j ++ more) run.ends in
        let room : length (moves p (j ++ more)) < 65536 = runs_below j more there run.followed in
        let g : GoesFirst q ss p j f.first.picks more = goes_first q ss p j f.first.picks more f.first.one f.first.there f.first.independent rests room in
        let t : ℕ = g.0 in
        let rest : List ℕ = g.1 in
        let shorter : length rest + 1 ≡ length more = g.3 in
        let alike : IsStateAlike q ss p (j ++ more) ((j ++ t ∷ []) ++ rest) = subst (IsStateAlike q ss p (j ++ more)) (sym (append_assoc j (t ∷ []) rest)) g.4 in
        let back : IsStateAlike q ss p ((j ++ t ∷ []) ++ rest) (j ++ more) = alike_back q ss p (j ++ more) ((j ++ t ∷ []) ++ rest) alike in
        state_by q ss p js (j ++ more) ((j ++ t ∷ []) ++ rest) alike
        (ih (j ++ t ∷ []) rest (omega arith) (f.first.next t g.2)
        (record { followed = followed_all f.all (j ++ t ∷ []) rest; ends = inl (λ pick. idle_alike q ss p ((j ++ t ∷ []) ++ rest) (j ++ more) pick back (rests pick)) }))

    reach_tried : IsTriedWithin admits q ss p js j → (more : List ℕ) → length more ≤ suc n → IsRunToEnd admits q ss p j more → HasStateOf q ss p js (j ++ more)
    reach_tried (inl next) more few run = reach_all next more few run
    reach_tried (inr f) more few run = reach_first f more few run

  reaches_next : (n : ℕ) → Reaches n → Reaches (suc n)
  reaches_next n ih a more few s run =
      let f : Found a = found_at a s in
      state_by q ss p js (a ++ more) (f.0 ++ more) (goes_on q ss p a f.0 more f.2)
      (reach_tried n ih f.0 (back_at a s f) f.1 more few (run_alike admits q ss p more f.0 a (alike_back q ss p a f.0 f.2) run))

  reaches_nothing : Reaches zero
  reaches_nothing a [] few s run = subst (HasStateOf q ss p js) (sym (append-nil a)) s
  reaches_nothing a (x ∷ more) few s run = absurd (omega arith)

  reaches : (n : ℕ) → Reaches n
  reaches zero = reaches_nothing
  reaches (suc n) = reaches_next n (reaches n)

  pub ends_have_state : (a more : List ℕ) → HasStateOf q ss p js a → IsRunToEnd admits q ss p a more → HasStateOf q ss p js (a ++ more)
  ends_have_state a more s run = reaches (length more) a more (omega arith) s run

pub reduced_bound_runs : ReducedJournalsBoundRuns
reduced_bound_runs admits q ss p js before more there reduced below followed = runs_below admits q ss p js reduced below before more there followed

pub reduced_have_ends : ReducedJournalsHaveEnds
reduced_have_ends admits q ss p js before more there reduced below run = ends_have_state admits q ss p js reduced below before more there run

pub reduced_ends_are_complete : ReducedEndsAreComplete
reduced_ends_are_complete admits q ss p js before es there reduced below entries more run =
    end_has_entry admits q ss p js (before ++ more) es (ends_have_state admits q ss p js reduced below before more there run) run.ends entries

pub reduced_ends_are_shortest : ReducedEndsAreShortest
reduced_ends_are_shortest admits q ss p js before es there reduced below shortest more run =
    end_is_no_shorter admits q ss p js (before ++ more) es (ends_have_state admits q ss p js reduced below before more there run) run.ends shortest
