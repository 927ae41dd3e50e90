-- The picks of a greedy run move, and what is kept of it is admitted.
use Rattle.std.proofs.Common.{◌≡◌, ◌∙◌, ℕ, zero, suc, Bool, true, false, cond, List, [], ◌∷◌, ◌++◌, ap, sym, subst, refl, append_assoc, append-nil}
use Rattle.std.specs.Prelude.{Option, Some, None, unwrap_or, if◌then◌else◌}
use Rattle.std.specs.List.{find}
use Rattle.std.specs.Option.{option_map}
use Rattle.std.proofs.lemmas.Bool.{and_parts}
use Rattle.def_term.specs.Names.{Name}
use Rattle.def_script.specs.Program.{Program}
use Rattle.def_run.specs.Run.{start, moves}
use Rattle.def_run.proofs.Appends.{moves-append}
use Rattle.def_run.proofs.Replay.{moves_again}
use Rattle.def_explore.specs.Rests.{RunQuestion, KeptMessages, IsMovingAfter, all_messages, by_process, kept_in}
use Rattle.def_explore.specs.Answers.{IsJournalFrom}
use Rattle.def_compare.specs.Traces.{begins_trace}
use Rattle.def_compare.specs.Entries.{IsPossibleBy}
use Rattle.def_compare.proofs.InOrder.{journal_after}
use Rattle.def_compare.proofs.Matches.{match_is_possible, possible_rests}
use Rattle.def_greedy_run.specs.GreedyRuns.{is_next, next_pick, greedy_run}
use Rattle.def_greedy_run.specs.Laws.{GreedyRunMoves, GreedyRunIsAdmitted, GreedyRunShows}

-- what is found passes
pub found_passes : {X : Type 0} (test : X → Bool) (xs : List X) (x : X) → find test xs ≡ Some x → test x ≡ true
found_passes test [] x h = cc
found_passes test (y ∷ ys) x h = by_first (test y) refl h (found_passes test ys x)
  where
    by_first : (c : Bool) → test y ≡ c → cond c (Some y) (find test ys) ≡ Some x → (find test ys ≡ Some x → test x ≡ true) → test x ≡ true
    by_first true e is later = subst (λ z. test z ≡ true) (ap (λ o. unwrap_or o x) is) e
    by_first false e is later = later is

-- a pick that moves is one more in the journal
moved_one : (p : Program) (journal : List ℕ) (pick : ℕ) → moves p journal ≡ journal → IsMovingAfter p journal pick → moves p (journal ++ pick ∷ []) ≡ journal ++ pick ∷ []
moved_one p journal pick all h =
    moves-append p.functions (start p) journal (pick ∷ []) ∙ ap (λ b. moves p journal ++ ((if b then pick ∷ [] else []) ++ [])) h ∙ ap (λ xs. xs ++ pick ∷ []) all

module _ (admits : KeptMessages → Bool) (q : RunQuestion) (ss : List Name) (p : Program) (picks : List ℕ) where
  -- what is so of the journal, and stays so with a next pick, is so of the greedy run
  pub of_run : (P : List ℕ → Type 0) → ((journal : List ℕ) (pick : ℕ) → is_next admits q ss p journal pick ≡ true → P journal → P (journal ++ pick ∷ [])) → (n : ℕ) (journal : List ℕ) → P journal → P (greedy_run admits q ss p picks n journal)
  of_run P step zero journal h = h
  of_run P step (suc n) journal h = by_next (next_pick admits q ss p picks journal) refl (λ pick. of_run P step n (journal ++ pick ∷ []))
    where
      by_next : (o : Option ℕ) → next_pick admits q ss p picks journal ≡ o → ((pick : ℕ) → P (journal ++ pick ∷ []) → P (greedy_run admits q ss p picks n (journal ++ pick ∷ []))) → P (unwrap_or (option_map (λ pick. greedy_run admits q ss p picks n (journal ++ pick ∷ [])) o) journal)
      by_next None e later = h
      by_next (Some pick) e later = later pick (step journal pick (found_passes (is_next admits q ss p journal) picks pick e) h)

  moves_on : (before journal : List ℕ) (pick : ℕ) → is_next admits q ss p journal pick ≡ true → IsJournalFrom p before journal → IsJournalFrom p before (journal ++ pick ∷ [])
  moves_on before journal pick next from =
      let moving : IsMovingAfter p journal pick = (and_parts _ _ next).0 in
      record {
        more = from.more ++ pick ∷ [];
        goes_on = ap (λ js. js ++ pick ∷ []) from.goes_on ∙ append_assoc (moves p before) from.more (pick ∷ []);
        moved = moved_one p journal pick from.moved moving;
      }

  begins : (before : List ℕ) → IsJournalFrom p before (moves p before)
  begins before = record { more = []; goes_on = sym (append-nil (moves p before)); moved = moves_again p.functions (start p) before }

  run_moves : (before : List ℕ) (n : ℕ) → IsJournalFrom p before (greedy_run admits q ss p picks n (moves p before))
  run_moves before n = of_run (IsJournalFrom p before) (moves_on before) n (moves p before) (begins before)

  run_is_admitted : (before : List ℕ) (n : ℕ) → admits (kept_in q ss p (moves p before)) ≡ true → admits (kept_in q ss p (greedy_run admits q ss p picks n (moves p before))) ≡ true
  run_is_admitted before n h = of_run (λ j. admits (kept_in q ss p j) ≡ true) (λ j pick next old. (and_parts _ _ next).1) n (moves p before) h

pub greedy_run_moves : GreedyRunMoves
greedy_run_moves admits q ss p picks before n = run_moves admits q ss p picks before n

pub greedy_run_is_admitted : GreedyRunIsAdmitted
greedy_run_is_admitted admits q ss p picks before n h = run_is_admitted admits q ss p picks before n h

pub greedy_run_shows : GreedyRunShows
greedy_run_shows a ss p picks before n es m sound first =
    let journal = greedy_run (begins_trace a.messages) all_messages ss p picks n (moves p before) in
    let one = run_moves (begins_trace a.messages) all_messages ss p picks before n in
    let other : IsPossibleBy by_process a ss p journal m.entry.journal m.pairs = match_is_possible by_process a ss p journal es m sound first in
    record {
      from = journal_after p before journal m.entry.journal one other.from;
      shows = other.shows;
      rests = λ stays. possible_rests by_process a ss p journal m.entry.journal m.pairs stays other;
    }
