-- Which picks a list of directives makes of a program (own).
-- Depends on runs, and on the passes of a round.
use Rattle.std.specs.Prelude.{ℕ, zero, suc, ◌+◌, min, if◌then◌else◌, List, [], ◌∷◌, ◌++◌}
use Rattle.def_script.specs.Program.{Function, Program}
use Rattle.def_run.specs.Run.{JOURNAL, RunState, PickStep, pick_step, start, moves_from, run_state_after}
use Rattle.def_run.specs.Round.{passes}
use Rattle.def_run.specs.Laws.{repeat_picks}

-- which picks are taken next: so many of one, those of one until it is idle, or passes of all until nothing moves
pub data Directive : Type 0 where
  times : (count pick : ℕ) → Directive
  until_idle : (pick : ℕ) → Directive
  everybody : Directive

-- picks of one until it is idle, at most n
abbrev pub picks_until_idle : List Function → ℕ → ℕ → RunState → List ℕ
picks_until_idle ks zero pick q = []
picks_until_idle ks (suc n) pick q =
    let t : PickStep = pick_step ks q pick in
    let rest : List ℕ = picks_until_idle ks n pick t.after in
    if t.moved then pick ∷ rest else []

-- those that move of the picks of a directive, from a state where at most so many picks move
abbrev pub picks_of_directive : List Function → ℕ → RunState → Directive → List ℕ
picks_of_directive ks most q (times count pick) = moves_from ks q (repeat_picks (pick ∷ []) count)
picks_of_directive ks most q (until_idle pick) = picks_until_idle ks (most + 1) pick q
picks_of_directive ks most q everybody = passes ks (most + 1) q

-- those of all, each from the state after the picks of those before it
abbrev pub picks_from : List Function → ℕ → RunState → List Directive → List ℕ
picks_from ks most q [] = []
picks_from ks most q (d ∷ ds) =
    let made : List ℕ = picks_of_directive ks most q d in
    made ++ picks_from ks most (run_state_after ks q made) ds

-- the picks of directives in a run of the program, in which so many may move; a limit past the most picks that move
-- counts as that
abbrev pub picks_of_directives : Program → ℕ → List Directive → List ℕ
picks_of_directives p limit ds =
    let most : ℕ = min limit JOURNAL in
    picks_from p.functions most (record (start p) { room = most }) ds

-- all commands of the control list, and then everybody until nothing moves
abbrev pub CONTROL_FIRST : List Directive
CONTROL_FIRST = until_idle 0 ∷ everybody ∷ []
