-- Which moves of a run a running node does otherwise (own).
-- Depends on the history of a run, and on what a session makes of an event or a command.
use Rattle.std.specs.Prelude.{◌≢◌, ℕ, Bool, true, false, List, [], ◌∷◌, map}
use Rattle.std.specs.List.{list_any}
use Rattle.def_script.specs.Program.{Program}
use Rattle.def_script.specs.Exports.{Exports, exports_of}
use Rattle.def_outlook.specs.Outlook.{Outlook}
use Rattle.def_run.specs.Run.{HistoryItem}
use Rattle.def_run.specs.History.{NamedSession, Moment, MoveHistory, move_histories}
use Rattle.def_explain.specs.Lists.{One}
use Rattle.def_explain.specs.Differences.{Difference}
use Rattle.def_explain.specs.Accounts.{differences_in_lines}
use Rattle.def_explain.specs.Runs.{session_lines}

-- what this session makes of it has what a node does otherwise
abbrev pub SessionDiffers : Exports → Outlook → HistoryItem → NamedSession → Type 0
SessionDiffers o l x s = differences_in_lines (session_lines o l s x) ≢ []

-- what one of the sessions makes of it
abbrev pub MomentDiffers : Exports → Outlook → Moment → Type 0
MomentDiffers o l m = One (SessionDiffers o l m.item) m.before

-- one of the moments of a move is such
abbrev pub MoveDiffers : Exports → MoveHistory → Type 0
MoveDiffers o h = One (MomentDiffers o h.outlook) h.moments

-- ---- the same, computed

-- there is one
abbrev pub is_some_difference : List Difference → Bool
is_some_difference [] = false
is_some_difference (x ∷ xs) = true

-- what this session makes of it has what a node does otherwise
abbrev pub session_differs : Exports → Outlook → HistoryItem → NamedSession → Bool
session_differs o l x s = is_some_difference (differences_in_lines (session_lines o l s x))

-- what one of the sessions makes of it
abbrev pub moment_differs : Exports → Outlook → Moment → Bool
moment_differs o l m = list_any (session_differs o l m.item) m.before

-- one of the moments of a move is such
abbrev pub move_differs : Exports → MoveHistory → Bool
move_differs o h = list_any (moment_differs o h.outlook) h.moments

-- ---- a run

-- of each move of a run in order, whether a node does it otherwise
abbrev pub differing_moves : Program → List ℕ → List Bool
differing_moves p picks = map (move_differs (exports_of p)) (move_histories p picks)
