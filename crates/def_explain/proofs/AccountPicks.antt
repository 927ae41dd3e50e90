-- The account of a run, pick by pick.
use Rattle.std.proofs.Common.{◌≡◌, ℕ, suc, Bool, true, false, List, [], ◌∷◌, ◌++◌, refl, ap, if◌then◌else◌}
use Rattle.std.specs.Prelude.{flat_map}
use Rattle.def_script.specs.Program.{Function, Program}
use Rattle.def_script.specs.Exports.{Exports, exports_of}
use Rattle.def_outlook.specs.Outlook.{outlook}
use Rattle.def_run.specs.Run.{RunState, PickStep, pick_step, start}
use Rattle.def_run.specs.History.{NamedSession, all_after_items, named_sessions, MoveHistory, move_history, move_histories_from}
use Rattle.def_explain.specs.Runs.{AccountEntry, entries_of_moments, entries_of_move, entries}

-- the entries of the picks that move, after so many moves
abbrev pub entries_from : Exports → List Function → RunState → ℕ → List NamedSession → List ℕ → List AccountEntry
entries_from o fs p k ss [] = []
entries_from o fs p k ss (pick ∷ picks) =
    let t : PickStep = pick_step fs p pick in
    if t.moved
    then entries_of_move o (outlook fs p.world pick) (suc k) pick ss t.shown ++ entries_from o fs t.after (suc k) (all_after_items o ss t.shown) picks
    else entries_from o fs t.after k ss picks

abbrev entries_of : Exports → MoveHistory → List AccountEntry
entries_of o h = entries_of_moments o h.outlook h.number h.pick h.moments

from-history : (o : Exports) (fs : List Function) (p : RunState) (k : ℕ) (ss : List NamedSession) (picks : List ℕ) → flat_map (entries_of o) (move_histories_from o fs p k ss picks) ≡ entries_from o fs p k ss picks
from-history o fs p k ss [] = refl
from-history o fs p k ss (pick ∷ picks) = go (pick_step fs p pick) (pick_step fs p pick).moved (λ q j vs. from-history o fs q j vs picks)
  where
    go : (t : PickStep) (b : Bool) → ((q : RunState) (j : ℕ) (vs : List NamedSession) → flat_map (entries_of o) (move_histories_from o fs q j vs picks) ≡ entries_from o fs q j vs picks)
        → flat_map (entries_of o) (if b then move_history o (suc k) pick (outlook fs p.world pick) ss t.shown ∷ move_histories_from o fs t.after (suc k) (all_after_items o ss t.shown) picks else move_histories_from o fs t.after k ss picks)
        ≡ (if b then entries_of_move o (outlook fs p.world pick) (suc k) pick ss t.shown ++ entries_from o fs t.after (suc k) (all_after_items o ss t.shown) picks else entries_from o fs t.after k ss picks)
    go t true again = ap (entries_of_move o (outlook fs p.world pick) (suc k) pick ss t.shown ++◌) (again t.after (suc k) (all_after_items o ss t.shown))
    go t false again = again t.after k ss

-- of a run
pub entries_by_picks : (p : Program) (picks : List ℕ) → entries p picks ≡ entries_from (exports_of p) p.functions (start p) 0 (named_sessions p) picks
entries_by_picks p picks = from-history (exports_of p) p.functions (start p) 0 (named_sessions p) picks
