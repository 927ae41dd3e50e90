-- What is said of a run of which a running node does some moves otherwise: at how many, and what each session has there in place of its lines (own).
-- Depends on the lines that a running node has of each move, on which commands can lead to others, and on the account of a run.
use Rattle.std.specs.Prelude.{ℕ, Bool, true, false, if◌then◌else◌, List, [], ◌∷◌, ◌++◌, map, flat_map, length, Option, Some, None}
use Rattle.std.specs.List.{list_any, count_by}
use Rattle.def_script.specs.Program.{Program}
use Rattle.def_script.specs.Exports.{Exports, exports_of}
use Rattle.def_run.specs.History.{MoveHistory, move_histories}
use Rattle.def_explain.specs.NodeCommands.{can_differ}
use Rattle.def_explain.specs.Runs.{entries_of_moments}
use Rattle.def_explain.specs.RunTexts.{Filter, is_move, filter_entries, entry_text, account_text}
use Rattle.def_running_node.specs.NodeComparisons.{Comparison, NamedLine, comparison_at_start, after_pick, items_of, lines_of_move, lines_of_run, named_line_text}

-- ---- the note

-- a session has other messages or another reply on a node, or what it has isn't determined any more
abbrev pub has_node_line : List NamedLine → Bool
has_node_line [] = false
has_node_line (l ∷ ls) = true

-- of each move of a run in order, whether it is such
abbrev pub moves_that_differ : Program → List ℕ → List Bool
moves_that_differ p picks = map has_node_line (lines_of_run None p picks)

-- how many moves a node does otherwise, and how many there are
pub record NodeNote : Type 0 where
  pub differing : ℕ
  pub moves : ℕ

-- the note of these, where a node does one of them otherwise
abbrev pub note_of : List Bool → Option NodeNote
note_of bs = if list_any (λ b. b) bs then Some (record { differing = count_by (λ b. b) bs; moves = length bs }) else None

-- the note of a run, of whose commands one can lead to such a move
abbrev pub node_note : Program → List ℕ → Option NodeNote
node_note p picks = if can_differ p then note_of (moves_that_differ p picks) else None

-- ---- the account

-- a move that has such lines, and that the filter selects: what the sessions make of it, and the lines
abbrev pub text_of_node_move : Exports → Filter → MoveHistory → List NamedLine → List ℕ
text_of_node_move o a h [] = []
text_of_node_move o a h (l ∷ ls) =
    if is_move a.move h.number
    then flat_map entry_text (filter_entries a h.number (entries_of_moments o h.outlook h.number h.pick h.moments)) ++ flat_map named_line_text (l ∷ ls)
    else []

-- of several moves, before which the sessions are these
abbrev pub text_of_node_moves : Exports → Filter → Comparison → List MoveHistory → List ℕ
text_of_node_moves o a c [] = []
text_of_node_moves o a c (h ∷ hs) = text_of_node_move o a h (lines_of_move o h.outlook h.pick c (items_of h)) ++ text_of_node_moves o a (after_pick o h.outlook h.pick c (items_of h)) hs

-- the moves of a run that a node does otherwise
abbrev pub node_account_text : Filter → Program → List ℕ → List ℕ
node_account_text a p picks = text_of_node_moves (exports_of p) a (comparison_at_start a.session p) (move_histories p picks)

-- what is asked of a run: what the filter selects, of all moves, or of those alone that a node does otherwise
pub record Question : Type 0 where
  pub filter : Filter
  pub node : Bool

abbrev pub question_text : Question → Program → List ℕ → List ℕ
question_text q p picks = if q.node then node_account_text q.filter p picks else account_text q.filter p picks
