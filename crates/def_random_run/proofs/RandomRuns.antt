-- The picks of a random run move, and it goes to rest.
use Rattle.std.proofs.Common.{◌≡◌, ◌∙◌, ℕ, zero, suc, ◌+◌, ◌%◌, ◌<◌, ◌≤◌, Bool, true, false, cond, List, [], ◌∷◌, ◌++◌, length, get_or, ap, sym, subst, refl, append_assoc, append-nil, length-append, arith}
use Rattle.std.specs.Prelude.{Option, Some, None, unwrap_or, filter, slice_get}
use Rattle.std.specs.Option.{option_map}
use Rattle.std.specs.List.{Contains}
use Rattle.std.proofs.lemmas.Option.{slice_get-get_or}
use Rattle.def_script.specs.Program.{Program}
use Rattle.def_run.specs.Run.{start, moves, pick_step_after}
use Rattle.def_run.specs.Round.{pass, is_empty}
use Rattle.def_run.proofs.Appends.{moves-append}
use Rattle.def_run.proofs.Replay.{moves_again}
use Rattle.def_explore.specs.Rests.{IsMovingAfter}
use Rattle.def_explore.specs.Answers.{IsJournalFrom}
use Rattle.def_explore.proofs.Passes.{moves_are_of_a_pass}
use Rattle.def_random_run.specs.Numbers.{next_seed, seed_number}
use Rattle.def_random_run.specs.RandomRuns.{moving_picks, is_at_rest, pick_at, random_pick, random_run}
use Rattle.def_random_run.specs.Laws.{RandomRunMoves, RandomRunIsBounded, RandomRunRests, PassIsAtRest}

-- ---- a pick

-- what is at a place of what passes a test passes it
passes : {X : Type 0} (test : X → Bool) (xs : List X) (k : ℕ) (x : X) → slice_get (filter test xs) k ≡ Some x → test x ≡ true
passes test [] k x h = cc
passes test (y ∷ ys) k x h = by_first (test y) refl k h (λ n. passes test ys n x)
  where
    by_first : (b : Bool) → test y ≡ b → (n : ℕ) → slice_get (cond b (y ∷ filter test ys) (filter test ys)) n ≡ Some x → ((m : ℕ) → slice_get (filter test ys) m ≡ Some x → test x ≡ true) → test x ≡ true
    by_first true e zero is later = subst (λ z. test z ≡ true) (ap (λ o. unwrap_or o x) is) e
    by_first true e (suc n) is later = later n is
    by_first false e n is later = later n is

pub pick_moves : (p : Program) (picks journal : List ℕ) (number pick : ℕ) → random_pick p picks journal number ≡ Some pick → IsMovingAfter p journal pick
pick_moves p picks journal number pick h =
    let moving : List ℕ = moving_picks p picks journal in
    passes (λ k. (pick_step_after p journal k).moved) picks (number % length moving) pick h

-- where none is drawn, there is none
none_drawn : (moving : List ℕ) (number : ℕ) → pick_at moving number ≡ None → is_empty moving ≡ true
none_drawn [] number h = refl
none_drawn (k ∷ ks) number h =
    let place : number % length (k ∷ ks) < length (k ∷ ks) = omega arith in
    let some = slice_get-get_or (k ∷ ks) (number % length (k ∷ ks)) 0 place in
    absurd (cc)

-- one that moves is one more in the journal
moved_one : (p : Program) (journal : List ℕ) (pick : ℕ) → moves p journal ≡ journal → IsMovingAfter p journal pick → moves p (journal ++ pick ∷ []) ≡ journal ++ pick ∷ []
moved_one p journal pick all h =
    moves-append p.functions (start p) journal (pick ∷ []) ∙ ap (λ b. moves p journal ++ ((cond b (pick ∷ []) []) ++ [])) h ∙ ap (λ xs. xs ++ pick ∷ []) all

-- ---- a run

module _ (p : Program) (picks : List ℕ) where
  -- what is so of the journal, and stays so with a pick that moves, is so of the run
  pub of_run : (P : List ℕ → Type 0) → ((journal : List ℕ) (pick : ℕ) → IsMovingAfter p journal pick → P journal → P (journal ++ pick ∷ [])) → (n seed : ℕ) (journal : List ℕ) → P journal → P (random_run p picks n seed journal)
  of_run P step zero seed journal h = h
  of_run P step (suc n) seed journal h = by_pick (random_pick p picks journal (seed_number (next_seed seed))) refl (λ pick. of_run P step n (next_seed seed) (journal ++ pick ∷ []))
    where
      by_pick : (o : Option ℕ) → random_pick p picks journal (seed_number (next_seed seed)) ≡ o → ((pick : ℕ) → P (journal ++ pick ∷ []) → P (random_run p picks n (next_seed seed) (journal ++ pick ∷ [])))
          → P (unwrap_or (option_map (λ pick. random_run p picks n (next_seed seed) (journal ++ pick ∷ [])) o) journal)
      by_pick None e later = h
      by_pick (Some pick) e later = later pick (step journal pick (pick_moves p picks journal (seed_number (next_seed seed)) pick e) h)

  moves_on : (before journal : List ℕ) (pick : ℕ) → IsMovingAfter p journal pick → IsJournalFrom p before journal → IsJournalFrom p before (journal ++ pick ∷ [])
  moves_on before journal pick moving from = record {
    more = from.more ++ pick ∷ [];
    goes_on = ap (λ js. js ++ pick ∷ []) from.goes_on ∙ append_assoc (moves p before) from.more (pick ∷ []);
    moved = moved_one p journal pick from.moved moving;
  }

  begins : (before : List ℕ) → IsJournalFrom p before (moves p before)
  begins before = record { more = []; goes_on = sym (append-nil (moves p before)); moved = moves_again p.functions (start p) before }

  pub run_moves : (before : List ℕ) (n seed : ℕ) → IsJournalFrom p before (random_run p picks n seed (moves p before))
  run_moves before n seed = of_run (IsJournalFrom p before) (moves_on before) n seed (moves p before) (begins before)

  pub run_is_longer : (n seed : ℕ) (journal : List ℕ) → length journal ≤ length (random_run p picks n seed journal)
  run_is_longer n seed journal = of_run (λ j. length journal ≤ length j) (λ j pick moving h. let longer : length (j ++ pick ∷ []) ≡ length j + 1 = length-append j (pick ∷ []) in omega arith) n seed journal (omega arith)

  pub run_is_bounded : (n seed : ℕ) (journal : List ℕ) → length (random_run p picks n seed journal) ≤ length journal + n
  run_is_bounded zero seed journal = omega arith
  run_is_bounded (suc n) seed journal = by_pick (random_pick p picks journal (seed_number (next_seed seed))) (λ pick. run_is_bounded n (next_seed seed) (journal ++ pick ∷ []))
    where
      by_pick : (o : Option ℕ) → ((pick : ℕ) → length (random_run p picks n (next_seed seed) (journal ++ pick ∷ [])) ≤ length (journal ++ pick ∷ []) + n)
          → length (unwrap_or (option_map (λ pick. random_run p picks n (next_seed seed) (journal ++ pick ∷ [])) o) journal) ≤ length journal + suc n
      by_pick None later = omega arith
      by_pick (Some pick) later = let longer : length (journal ++ pick ∷ []) ≡ length journal + 1 = length-append journal (pick ∷ []) in let h = later pick in omega arith

  pub run_rests : (n seed : ℕ) (journal : List ℕ) → length (random_run p picks n seed journal) < length journal + n → is_at_rest p picks (random_run p picks n seed journal) ≡ true
  run_rests zero seed journal h = absurd (omega arith)
  run_rests (suc n) seed journal h = by_pick (random_pick p picks journal (seed_number (next_seed seed))) refl h (λ pick. run_rests n (next_seed seed) (journal ++ pick ∷ []))
    where
      by_pick : (o : Option ℕ) → random_pick p picks journal (seed_number (next_seed seed)) ≡ o → length (unwrap_or (option_map (λ pick. random_run p picks n (next_seed seed) (journal ++ pick ∷ [])) o) journal) < length journal + suc n
          → ((pick : ℕ) → length (random_run p picks n (next_seed seed) (journal ++ pick ∷ [])) < length (journal ++ pick ∷ []) + n → is_at_rest p picks (random_run p picks n (next_seed seed) (journal ++ pick ∷ [])) ≡ true)
          → is_at_rest p picks (unwrap_or (option_map (λ pick. random_run p picks n (next_seed seed) (journal ++ pick ∷ [])) o) journal) ≡ true
      by_pick None e short later = none_drawn (moving_picks p picks journal) (seed_number (next_seed seed)) e
      by_pick (Some pick) e short later = let longer : length (journal ++ pick ∷ []) ≡ length journal + 1 = length-append journal (pick ∷ []) in later pick (omega arith)

pub random_run_moves : RandomRunMoves
random_run_moves p picks before n seed = run_moves p picks before n seed

pub random_run_is_bounded : RandomRunIsBounded
random_run_is_bounded p picks journal n seed = run_is_bounded p picks n seed journal

pub random_run_rests : RandomRunRests
random_run_rests p picks journal n seed h = run_rests p picks n seed journal h

-- ---- rest

-- where none of them passes a test, the one at a place doesn't
none_at : (test : ℕ → Bool) (xs : List ℕ) (k x : ℕ) → is_empty (filter test xs) ≡ true → k < length xs → get_or xs k x ≡ x → test x ≡ false
none_at test [] k x none below is = absurd (omega arith)
none_at test (y ∷ ys) k x none below is = by_first (test y) refl none k below is (λ n. none_at test ys n x)
  where
    by_first : (b : Bool) → test y ≡ b → is_empty (cond b (y ∷ filter test ys) (filter test ys)) ≡ true → (n : ℕ) → n < length (y ∷ ys) → get_or (y ∷ ys) n x ≡ x
        → ((m : ℕ) → is_empty (filter test ys) ≡ true → m < length ys → get_or ys m x ≡ x → test x ≡ false) → test x ≡ false
    by_first true e none n below is later = cc
    by_first false e none zero below is later = ap test (sym is) ∙ e
    by_first false e none (suc n) below is later = later n none (omega arith) is

none_passes : (test : ℕ → Bool) (xs : List ℕ) (x : ℕ) → is_empty (filter test xs) ≡ true → Contains xs x → test x ≡ false
none_passes test xs x none (k, below, is) = none_at test xs k x none below is

pub pass_is_at_rest : PassIsAtRest
pass_is_at_rest p journal few none pick = by_move (pick_step_after p journal pick).moved refl
  where
    by_move : (b : Bool) → (pick_step_after p journal pick).moved ≡ b → b ≡ false
    by_move false e = refl
    by_move true e = sym e ∙ none_passes (λ k. (pick_step_after p journal k).moved) pass pick none (moves_are_of_a_pass p journal pick few e)
