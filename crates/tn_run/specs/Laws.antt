-- What is promised of runs, beside the contract of `run`.
-- Depends on what a run gives and on the output that is defined.
use Rattle.std.specs.Prelude.{ℕ, ◌≤◌, List, length, All}
use Rattle.def_term.specs.Alive.{PROCESSES}
use Rattle.def_script.specs.Program.{Program}
use Rattle.def_run.specs.Picks.{SpellsPicks}
use Rattle.def_run.specs.Round.{pass}
use Rattle.def_run.specs.Laws.{IsIdleAfter}
use Rattle.def_run.specs.Output.{IsOutput, IsRoundOutput}
use Rattle.tn_run.specs.declared.outcome.Outcome.{Outcome}
use Rattle.def_moves.specs.Outputs.{IsMovesOutput, IsControlFirstOutput}
use Rattle.tn_moves.specs.Schedules.{by_picks, by_moves, by_round, by_control_first, by_workers}
use Rattle.tn_run.specs.Answers.{run_for}
use Rattle.tn_run.specs.Jobs.{Gives}

-- what is written for any bytes and any text of picks is the defined output
abbrev pub RunIsAsDefined : Type 0
RunIsAsDefined = (bytes text : List ℕ) (o : Outcome) (output : List ℕ) → Gives (run_for (by_picks text)) bytes o output → IsOutput bytes text output

-- and for any limit of a round
abbrev pub RoundIsAsDefined : Type 0
RoundIsAsDefined = (bytes : List ℕ) (limit : ℕ) (o : Outcome) (output : List ℕ) → Gives (run_for (by_round limit)) bytes o output → IsRoundOutput bytes limit output

-- and for any text of moves
abbrev pub MovesRunIsAsDefined : Type 0
MovesRunIsAsDefined = (bytes text : List ℕ) (o : Outcome) (output : List ℕ) → Gives (run_for (by_moves text)) bytes o output → IsMovesOutput bytes text output

-- and for any limit of a round after the control list
abbrev pub ControlFirstIsAsDefined : Type 0
ControlFirstIsAsDefined = (bytes : List ℕ) (limit : ℕ) (o : Outcome) (output : List ℕ) → Gives (run_for (by_control_first limit)) bytes o output → IsControlFirstOutput bytes limit output

-- what a node writes that workers ran is the defined output for the picks of its journal, whatever text spells them
abbrev pub WorkersRunAsDefined : Type 0
WorkersRunAsDefined =
    (bytes text made : List ℕ) (o : Outcome) (output : List ℕ) → SpellsPicks text made → Gives (run_for (by_workers made)) bytes o output → IsOutput bytes text output

-- where no pick of a pass moves, none does
abbrev pub RestIsOfAllPicks : Type 0
RestIsOfAllPicks =
    (p : Program) (picks : List ℕ) → length p.entries ≤ PROCESSES → All (IsIdleAfter p picks) pass → (pick : ℕ) → IsIdleAfter p picks pick
