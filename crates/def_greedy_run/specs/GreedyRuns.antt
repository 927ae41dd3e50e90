-- The greedy run: at each move it takes the first pick after which what is kept is still admitted (own). It is found without a search.
-- Depends on runs, and on what an exploration keeps of them.
use Rattle.std.specs.Prelude.{ℕ, zero, suc, Bool, ◌&&◌, List, [], ◌∷◌, ◌++◌, Option, unwrap_or}
use Rattle.std.specs.List.{find}
use Rattle.std.specs.Option.{option_map}
use Rattle.def_term.specs.Names.{Name}
use Rattle.def_script.specs.Program.{Program}
use Rattle.def_run.specs.Run.{pick_step_after}
use Rattle.def_explore.specs.Rests.{RunQuestion, KeptMessages, kept_in}

-- the pick moves after the journal, and what is kept then is admitted
abbrev pub is_next : (KeptMessages → Bool) → RunQuestion → List Name → Program → List ℕ → ℕ → Bool
is_next admits q ss p journal pick = (pick_step_after p journal pick).moved && admits (kept_in q ss p (journal ++ pick ∷ []))

-- the first of these picks that does and is
abbrev pub next_pick : (KeptMessages → Bool) → RunQuestion → List Name → Program → List ℕ → List ℕ → Option ℕ
next_pick admits q ss p picks journal = find (is_next admits q ss p journal) picks

-- the journal with at most so many picks after it, each of which is the next one of these picks
abbrev pub greedy_run : (KeptMessages → Bool) → RunQuestion → List Name → Program → List ℕ → ℕ → List ℕ → List ℕ
greedy_run admits q ss p picks zero journal = journal
greedy_run admits q ss p picks (suc n) journal =
    unwrap_or (option_map (λ pick. greedy_run admits q ss p picks n (journal ++ pick ∷ [])) (next_pick admits q ss p picks journal)) journal
