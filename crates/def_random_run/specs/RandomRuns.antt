-- Random runs: at each move one of the picks that move, at a place that a number from a seed gives (own).
-- Depends on runs, and on numbers from a seed.
use Rattle.std.specs.Prelude.{ℕ, zero, suc, ◌%◌, Bool, List, [], ◌∷◌, ◌++◌, length, filter, slice_get, Option, unwrap_or}
use Rattle.std.specs.Option.{option_map}
use Rattle.def_script.specs.Program.{Program}
use Rattle.def_run.specs.Run.{pick_step_after}
use Rattle.def_run.specs.Round.{is_empty}
use Rattle.def_random_run.specs.Numbers.{next_seed, seed_number}

-- those of some picks that move after the journal, in their order
abbrev pub moving_picks : Program → (picks journal : List ℕ) → List ℕ
moving_picks p picks journal = filter (λ pick. (pick_step_after p journal pick).moved) picks

-- none of them moves
abbrev pub is_at_rest : Program → (picks journal : List ℕ) → Bool
is_at_rest p picks journal = is_empty (moving_picks p picks journal)

-- the one of these at the place that the number gives, modulo their count
abbrev pub pick_at : List ℕ → (number : ℕ) → Option ℕ
pick_at moving number = slice_get moving (number % length moving)

-- of those that move
abbrev pub random_pick : Program → (picks journal : List ℕ) → (number : ℕ) → Option ℕ
random_pick p picks journal number = pick_at (moving_picks p picks journal) number

-- the journal with at most so many picks after it, each of which is drawn by the number of the next seed
abbrev pub random_run : Program → (picks : List ℕ) → (moves seed : ℕ) → List ℕ → List ℕ
random_run p picks zero seed journal = journal
random_run p picks (suc n) seed journal =
    let next : ℕ = next_seed seed in
    unwrap_or (option_map (λ pick. random_run p picks n next (journal ++ pick ∷ [])) (random_pick p picks journal (seed_number next))) journal
