-- The entries of random runs are sound, each of another listing.
use Rattle.std.proofs.Common.{◌≡◌, inl, ℕ, zero, suc, ◌+◌, ◌-◌, ◌≤◌, Bool, true, false, cond, List, [], ◌∷◌, ◌++◌, length, subst, refl, arith}
use Rattle.std.specs.List.{list_any}
use Rattle.def_term.specs.Alive.{PROCESSES}
use Rattle.def_term.specs.Names.{Name}
use Rattle.def_script.specs.Program.{Program}
use Rattle.def_run.specs.Run.{moves}
use Rattle.def_run.specs.Round.{pass}
use Rattle.def_explore.specs.Lists.{EachOf}
use Rattle.def_explore.specs.Rests.{RunQuestion, IsRestAfter, kept_in}
use Rattle.def_explore.specs.Answers.{RestEntry, IsJournalFrom, AreDistinct}
use Rattle.def_explore.specs.RunsToEnd.{IsFollowed, IsEndEntry, all_runs}
use Rattle.def_explore.proofs.Lists.{each_both}
use Rattle.def_random_run.specs.Numbers.{next_seed, seed_mixture}
use Rattle.def_random_run.specs.RandomRuns.{is_at_rest, random_run}
use Rattle.def_random_run.specs.RandomEntries.{states_through, random_runs, random_states, keep_same, with_entry, with_journal, with_journals}
use Rattle.def_random_run.specs.Laws.{RandomEntriesAreSound, RandomEntriesAreDistinct, RandomStatesAreBounded}
use Rattle.def_random_run.proofs.RandomRuns.{run_moves, run_is_bounded, pass_is_at_rest}
use Rattle.def_random_run.proofs.KeptSame.{none_keeps}

-- ---- one entry more

-- what is so of the entries, and of each entry that comes after them, is so of all
with_one : (P : List RestEntry → Type 0) (es : List RestEntry) (e : RestEntry) → P es → (EachOf (λ f. f.kept ≡ e.kept → ⊥) es → P (es ++ e ∷ [])) → P (with_entry es e)
with_one P es e old new = by_test (list_any (λ f. keep_same e.kept f.kept) es) refl
  where
    by_test : (b : Bool) → list_any (λ f. keep_same e.kept f.kept) es ≡ b → P (cond b es (es ++ e ∷ []))
    by_test true is = old
    by_test false is = new (none_keeps e.kept es is)

distinct_more : (es : List RestEntry) (e : RestEntry) → EachOf (λ f. f.kept ≡ e.kept → ⊥) es → AreDistinct es → AreDistinct (es ++ e ∷ [])
distinct_more [] e fresh old = (tt, tt)
distinct_more (f ∷ es) e fresh old = (each_both (λ g. f.kept ≡ g.kept → ⊥) es (e ∷ []) old.0 (fresh.0, tt), distinct_more es e fresh.1 old.1)

-- ---- the entries of journals

module _ (q : RunQuestion) (ss : List Name) (p : Program) (picks : List ℕ) where
  abbrev entry_of : List ℕ → RestEntry
  entry_of journal = record { kept = kept_in q ss p journal; journal = journal }

  -- what stays so with the entry of a journal at rest stays so with those of several
  with_each : (P : List RestEntry → Type 0) (Q : List ℕ → Type 0) → ((es : List RestEntry) (journal : List ℕ) → Q journal → is_at_rest p picks journal ≡ true → P es → P (with_entry es (entry_of journal)))
      → (js : List (List ℕ)) (es : List RestEntry) → EachOf Q js → P es → P (with_journals q ss p picks es js)
  with_each P Q step [] es each h = h
  with_each P Q step (journal ∷ js) es each h = with_each P Q step js (with_journal q ss p picks es journal) each.1 (by_rest (is_at_rest p picks journal) refl)
    where
      by_rest : (b : Bool) → is_at_rest p picks journal ≡ b → P (cond b (with_entry es (entry_of journal)) es)
      by_rest true rests = step es journal each.0 rests h
      by_rest false moves_yet = h

  each_is : (js : List (List ℕ)) → EachOf (λ j. Unit {0}) js
  each_is [] = tt
  each_is (journal ∷ js) = (tt, each_is js)

  pub distinct_entries : (js : List (List ℕ)) → AreDistinct (with_journals q ss p picks [] js)
  distinct_entries js = with_each AreDistinct (λ j. Unit {0}) (λ es journal any rests h. with_one AreDistinct es (entry_of journal) h (λ fresh. distinct_more es (entry_of journal) fresh h)) js [] (each_is js) tt

  -- the journals of runs
  each_from : (before : List ℕ) (runs seed max_states : ℕ) → EachOf (IsJournalFrom p before) (random_runs p picks (moves p before) runs seed max_states)
  each_from before zero seed max_states = tt
  each_from before (suc runs) seed zero = tt
  each_from before (suc runs) seed (suc n) =
      let journal : List ℕ = random_run p picks n (seed_mixture seed) (moves p before) in
      (run_moves p picks before n (seed_mixture seed), each_from before runs (next_seed seed) (suc n - states_through (moves p before) journal))

  all_followed : (journal more : List ℕ) → IsFollowed all_runs q ss p journal more
  all_followed journal [] = tt
  all_followed journal (pick ∷ more) = (refl, all_followed (journal ++ pick ∷ []) more)

-- ---- those of a pass

module _ (q : RunQuestion) (ss : List Name) (p : Program) (before : List ℕ) (few : length p.entries ≤ PROCESSES) where
  end_entry : (journal : List ℕ) → IsJournalFrom p before journal → IsRestAfter p journal → IsEndEntry all_runs q ss p before (entry_of q ss p pass journal)
  end_entry journal from rests = record {
    from = from;
    ends = record { followed = all_followed q ss p pass (moves p before) from.more; ends = inl (subst (IsRestAfter p) from.goes_on rests) };
    keeps = refl;
  }

  pub sound_entries : (js : List (List ℕ)) → EachOf (IsJournalFrom p before) js → EachOf (IsEndEntry all_runs q ss p before) (with_journals q ss p pass [] js)
  sound_entries js each =
      with_each q ss p pass (EachOf (IsEndEntry all_runs q ss p before)) (IsJournalFrom p before)
      (λ es journal from rests h. with_one (EachOf (IsEndEntry all_runs q ss p before)) es (entry_of q ss p pass journal) h
      (λ fresh. each_both (IsEndEntry all_runs q ss p before) es (entry_of q ss p pass journal ∷ []) h (end_entry journal from (pass_is_at_rest p journal few rests), tt))) js [] each tt

pub random_entries_are_sound : RandomEntriesAreSound
random_entries_are_sound q ss p before runs seed max_states few =
    sound_entries q ss p before few (random_runs p pass (moves p before) runs seed max_states) (each_from q ss p pass before runs seed max_states)

pub random_entries_are_distinct : RandomEntriesAreDistinct
random_entries_are_distinct q ss p picks first runs seed max_states = distinct_entries q ss p picks (random_runs p picks first runs seed max_states)

-- ---- states

module _ (p : Program) (picks first : List ℕ) where
  states_bounded : (runs seed max_states : ℕ) → random_states p picks first runs seed max_states ≤ max_states
  states_bounded zero seed max_states = omega arith
  states_bounded (suc runs) seed zero = omega arith
  states_bounded (suc runs) seed (suc n) =
      let journal : List ℕ = random_run p picks n (seed_mixture seed) first in
      let bounded : length journal ≤ length first + n = run_is_bounded p picks n (seed_mixture seed) first in
      let rest : ℕ = suc n - states_through first journal in
      let later : random_states p picks first runs (next_seed seed) rest ≤ rest = states_bounded runs (next_seed seed) rest in
      omega arith

pub random_states_are_bounded : RandomStatesAreBounded
random_states_are_bounded p picks first runs seed max_states = states_bounded p picks first runs seed max_states
