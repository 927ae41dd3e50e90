-- The output of a run by a text of moves, and of a round after the control list: what is written for the bytes of a
-- script (own).
-- Depends on scripts and their refusals, on texts of moves and on the output of an accepted script.
use Rattle.std.specs.Prelude.{◌≡◌, ℕ, List, []}
use Rattle.def_script.specs.Program.{Program}
use Rattle.def_script.specs.Script.{Refusal, IsScript, IsRefused}
use Rattle.def_run.specs.Listing.{program_output}
use Rattle.def_run.specs.Output.{refusal_text}
use Rattle.def_moves.specs.Directives.{picks_of_directives, CONTROL_FIRST}
use Rattle.def_moves.specs.Texts.{HasMoves}

-- the text says no moves in a run of the program
abbrev pub HasBadMoves : Program → List ℕ → Type 0
HasBadMoves p text = (picks : List ℕ) → HasMoves p text picks → ⊥

-- an accepted script's listings, replies and journal for the picks of the moves; nothing where the text says no moves of that script; or the line of the one refusal
pub data IsMovesOutput (bytes text output : List ℕ) : Type 0 where
  lists_moves : (p : Program) → (picks : List ℕ) → IsScript bytes p → HasMoves p text picks → output ≡ program_output p picks → IsMovesOutput bytes text output
  refuses_moves : (p : Program) → IsScript bytes p → HasBadMoves p text → output ≡ [] → IsMovesOutput bytes text output
  refuses_script : (r : Refusal) → IsRefused bytes r → output ≡ refusal_text r → IsMovesOutput bytes text output

-- the same of a round after the control list: an accepted script's listings, replies and journal for its picks, or the line of the one refusal
pub data IsControlFirstOutput (bytes : List ℕ) (limit : ℕ) (output : List ℕ) : Type 0 where
  lists_control_first : (p : Program) → IsScript bytes p → output ≡ program_output p (picks_of_directives p limit CONTROL_FIRST) → IsControlFirstOutput bytes limit output
  refuses_control_first : (r : Refusal) → IsRefused bytes r → output ≡ refusal_text r → IsControlFirstOutput bytes limit output
