-- Journals that are closed have all states of runs that are followed, and their entries are complete.
use Rattle.std.proofs.Common.{◌≡◌, ◌≤◌, ℕ, List, [], ◌∷◌, ◌++◌, length, Bool, true, false, refl, sym, ap, ◌∙◌, append_assoc, append-nil, subst}
use Rattle.def_term.specs.Names.{Name}
use Rattle.def_script.specs.Program.{Program}
use Rattle.def_run.specs.Run.{pick_step_after, moves}
use Rattle.def_explore.specs.Rests.{IsRestAfter, RunQuestion, KeptMessages, kept_in}
use Rattle.def_explore.specs.Alike.{IsStateAlike, HasStateOf, HasNext}
use Rattle.def_explore.specs.Answers.{RestEntry, IsEntryFor, IsNoLonger}
use Rattle.def_explore.specs.RunsToEnd.{IsFollowed, IsEndAfter, HasNextWithin, IsClosed}
use Rattle.def_explore.specs.Lists.{OneOf, EachOf}
use Rattle.def_explore.specs.Laws.{ClosedJournalsHaveAll, RestsHaveEntries, ClosedJournalsAreComplete, ClosedJournalsAreShortest}
use Rattle.def_explore.proofs.Lists.{one_also, one_both, each_also}
use Rattle.def_explore.proofs.RunsToEnd.{end_alike}
use Rattle.def_explore.proofs.Alike.{alike_then, alike_back, goes_on, still, idle_alike, moved_alike}

module _ (q : RunQuestion) (ss : List Name) (p : Program) (js : List (List ℕ)) where
  -- what is alike to picks whose state is there has its state there
  pub state_by : (a b : List ℕ) → IsStateAlike q ss p a b → HasStateOf q ss p js b → HasStateOf q ss p js a
  state_by a b h = one_also (IsStateAlike q ss p b) (IsStateAlike q ss p a) js (λ j. alike_then q ss p a b j h)

  -- where a pick is idle after a journal whose state is there
  pub state_idle : (j : List ℕ) (pick : ℕ) → (pick_step_after p j pick).moved ≡ false → HasStateOf q ss p js j → HasStateOf q ss p js (j ++ pick ∷ [])
  state_idle j pick idle = state_by (j ++ pick ∷ []) j (still q ss p j pick idle)

  module _ (admits : KeptMessages → Bool) (closed : IsClosed admits q ss p js) where
    state_next : (a : List ℕ) (pick : ℕ) → admits (kept_in q ss p a) ≡ true → HasStateOf q ss p js a → HasStateOf q ss p js (a ++ pick ∷ [])
    state_next a pick admitted s =
        let there : (j : List ℕ) × HasNextWithin admits q ss p js j × IsStateAlike q ss p a j = one_both (HasNextWithin admits q ss p js) (IsStateAlike q ss p a) js closed s in
        let j : List ℕ = there.0 in
        let next : HasNext q ss p js j = there.1 (ap admits (sym there.2.kept) ∙ admitted) in
        state_by (a ++ pick ∷ []) (j ++ pick ∷ []) (goes_on q ss p a j (pick ∷ []) there.2) (after j next there.2 (pick_step_after p j pick).moved refl)
      where
        after : (j : List ℕ) → HasNext q ss p js j → IsStateAlike q ss p a j → (b : Bool) → (pick_step_after p j pick).moved ≡ b → HasStateOf q ss p js (j ++ pick ∷ [])
        after j next alike true moved = next pick moved
        after j next alike false idle = state_idle j pick idle (state_by j a (alike_back q ss p a j alike) s)

    pub all_states : (more a : List ℕ) → IsFollowed admits q ss p a more → HasStateOf q ss p js a → HasStateOf q ss p js (a ++ more)
    all_states [] a followed s = subst (HasStateOf q ss p js) (sym (append-nil a)) s
    all_states (pick ∷ more) a followed s = subst (HasStateOf q ss p js) (append_assoc a (pick ∷ []) more) (all_states more (a ++ pick ∷ []) followed.1 (state_next a pick followed.0 s))

pub closed_have_all : ClosedJournalsHaveAll
closed_have_all admits q ss p js before there closed more followed = all_states q ss p js admits closed more before followed there

-- a run to rest whose state is there has its entry
pub rest_has_entry : (q : RunQuestion) (ss : List Name) (p : Program) (js : List (List ℕ)) (picks : List ℕ) (es : List RestEntry) → HasStateOf q ss p js picks → IsRestAfter p picks → RestsHaveEntries q ss p js es → OneOf (IsEntryFor q ss p picks) es
rest_has_entry q ss p js picks es state rests entries =
    let there : (j : List ℕ) × (IsRestAfter p j → OneOf (IsEntryFor q ss p j) es) × IsStateAlike q ss p picks j = one_both (λ j. IsRestAfter p j → OneOf (IsEntryFor q ss p j) es) (IsStateAlike q ss p picks) js entries state in
    let j : List ℕ = there.0 in
    let back : IsStateAlike q ss p j picks = alike_back q ss p picks j there.2 in
    one_also (IsEntryFor q ss p j) (IsEntryFor q ss p picks) es (λ e h. h ∙ back.kept) (there.1 (λ pick. idle_alike q ss p j picks pick back (rests pick)))

module _ (admits : KeptMessages → Bool) (q : RunQuestion) (ss : List Name) (p : Program) where
  abbrev EndHasEntry : List RestEntry → List ℕ → Type 0
  EndHasEntry es j = IsEndAfter admits q ss p j → OneOf (IsEntryFor q ss p j) es

  abbrev EndIsNoShorter : List RestEntry → List ℕ → Type 0
  EndIsNoShorter es j = IsEndAfter admits q ss p j → EachOf (IsNoLonger q ss p j) es

  pub end_has_entry : (js : List (List ℕ)) (picks : List ℕ) (es : List RestEntry) → HasStateOf q ss p js picks → IsEndAfter admits q ss p picks → EachOf (EndHasEntry es) js → OneOf (IsEntryFor q ss p picks) es
  end_has_entry js picks es state ends entries =
      let there : (j : List ℕ) × EndHasEntry es j × IsStateAlike q ss p picks j = one_both (EndHasEntry es) (IsStateAlike q ss p picks) js entries state in
      let j : List ℕ = there.0 in
      let back : IsStateAlike q ss p j picks = alike_back q ss p picks j there.2 in
      one_also (IsEntryFor q ss p j) (IsEntryFor q ss p picks) es (λ e h. h ∙ back.kept) (there.1 (end_alike admits q ss p j picks back ends))

  pub end_is_no_shorter : (js : List (List ℕ)) (picks : List ℕ) (es : List RestEntry) → HasStateOf q ss p js picks → IsEndAfter admits q ss p picks → EachOf (EndIsNoShorter es) js → EachOf (IsNoLonger q ss p picks) es
  end_is_no_shorter js picks es state ends shortest =
      let there : (j : List ℕ) × EndIsNoShorter es j × IsStateAlike q ss p picks j = one_both (EndIsNoShorter es) (IsStateAlike q ss p picks) js shortest state in
      let j : List ℕ = there.0 in
      let back : IsStateAlike q ss p j picks = alike_back q ss p picks j there.2 in
      let counted : length (moves p j) ≡ length (moves p picks) = moved_alike q ss p j picks back in
      each_also (IsNoLonger q ss p j) (IsNoLonger q ss p picks) es
      (λ e h same. subst (λ n. length e.journal ≤ n) counted (h (same ∙ sym back.kept)))
      (there.1 (end_alike admits q ss p j picks back ends))

pub closed_are_complete : ClosedJournalsAreComplete
closed_are_complete admits q ss p js before es there closed entries more run =
    end_has_entry admits q ss p js (before ++ more) es (all_states q ss p js admits closed more before run.followed there) run.ends entries

pub closed_are_shortest : ClosedJournalsAreShortest
closed_are_shortest admits q ss p js before es there closed shortest more run =
    end_is_no_shorter admits q ss p js (before ++ more) es (all_states q ss p js admits closed more before run.followed there) run.ends shortest
