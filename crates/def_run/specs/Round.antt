-- The picks of a round (own).
-- Depends on runs.
use Rattle.std.specs.Prelude.{ℕ, zero, suc, ◌+◌, min, Bool, true, false, if◌then◌else◌, List, [], ◌∷◌, ◌++◌}
use Rattle.def_term.specs.Alive.{FIRST_PID, PROCESSES}
use Rattle.def_script.specs.Program.{Function, Program}
use Rattle.def_run.specs.Run.{JOURNAL, RunState, start, moves_from, run_state_after}

-- so many picks, from this one on
abbrev pub pass_from : ℕ → ℕ → List ℕ
pass_from zero n = []
pass_from (suc k) n = n ∷ pass_from k (n + 1)

-- one pass: the control list, and then each of the processes from the first pid to the last
abbrev pub pass : List ℕ
pass = 0 ∷ pass_from PROCESSES FIRST_PID

-- nothing moved
abbrev pub is_empty : List ℕ → Bool
is_empty [] = true
is_empty (x ∷ xs) = false

-- the moves of passes, until one moves nothing; at most n passes
abbrev pub passes : List Function → ℕ → RunState → List ℕ
passes ks zero p = []
passes ks (suc n) p =
    let made : List ℕ = moves_from ks p pass in
    let rest : List ℕ = passes ks n (run_state_after ks p pass) in
    made ++ (if is_empty made then [] else rest)

-- a limit past the most picks that move counts as that
abbrev pub round : Program → ℕ → List ℕ
round p limit =
    let room : ℕ = min limit JOURNAL in
    passes p.functions (room + 1) (record (start p) { room = room })
