-- What the code's comparison is after some picks, and which moves of a run have lines.
use Rattle.std.specs.Prelude.{◌≡◌, ℕ, Bool, if◌then◌else◌, List, [], ◌∷◌, ◌++◌, Option, None}
use Rattle.std.specs.declared.vec.Vec.{Vec}
use Rattle.def_term.specs.Names.{Name}
use Rattle.def_script.specs.Program.{Program}
use Rattle.def_script.specs.Exports.{exports_of}
use Rattle.def_outlook.specs.Outlook as definition
use Rattle.def_outlook.specs.Outlook.{outlook}
use Rattle.def_run.specs.Run.{run_state_of, pick_step_after}
use Rattle.def_running_node.specs.NodeComparisons.{NamedLine, comparison_after, lines_of_move}
use Rattle.def_running_node.specs.NodeNotes.{has_node_line}
use Rattle.tn_node.specs.Outlooks.{outlook_seen}
use Rattle.tn_node.specs.declared.outlook.Outlook.{Outlook}
use Rattle.tn_running_node.specs.Comparisons.{IsComparison}
use Rattle.tn_running_node.specs.declared.comparison.Comparison.{Comparison}
use Rattle.tn_running_node.specs.declared.node_moves.NodeMoves.{NodeMoves}

-- what is known of the step of one more pick before it
abbrev pub outlook_after : Program → List ℕ → ℕ → definition.Outlook
outlook_after p picks pick = outlook p.functions (run_state_of p picks).world pick

-- this was known of it
abbrev pub SeesAhead : Outlook → Program → List ℕ → ℕ → Type 0
SeesAhead l p picks pick = outlook_seen l ≡ outlook_after p picks pick

-- the comparison is that of the program after these picks
abbrev pub HasCompared : {A : Type 0} → Option Name → Comparison A → Program → List ℕ → Type 0
HasCompared n c p picks = IsComparison (exports_of p) (comparison_after n p picks) c

-- the lines of one more pick that moves
abbrev pub lines_of_next : Option Name → Program → List ℕ → ℕ → List NamedLine
lines_of_next n p picks pick = lines_of_move (exports_of p) (outlook_after p picks pick) pick (comparison_after n p picks) (pick_step_after p picks pick).shown

-- ---- all moves of a run

-- those of all sessions were compared
abbrev pub HasComparedMoves : {A : Type 0} → NodeMoves A → Program → List ℕ → Type 0
HasComparedMoves m p picks = HasCompared None m.comparison p picks

-- whether one more pick has lines was appended, where it moves
abbrev pub AddsMove : {A : Type 0} → Program → List ℕ → ℕ → NodeMoves A → NodeMoves A → Vec Bool A → Vec Bool A → Type 0
AddsMove p picks pick old new out out' = out'.items ≡ out.items ++ (if (pick_step_after p picks pick).moved then has_node_line (lines_of_next None p picks pick) ∷ [] else [])
