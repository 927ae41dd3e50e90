-- What the code's notes stand for.
use Rattle.std.specs.Prelude.{ℕ, List, [], ◌∷◌, flat_map, Option, Some, None}
use Rattle.def_fun.specs.Trees.{FunExpr}
use Rattle.def_fun.specs.Variables.{ClauseNames}
use Rattle.def_fun_words.specs.Notes.{FunNote, whole_in_list, bindings_called, any_in_expression, test_ends_node, noted_parts_of, note_in_head}
use Rattle.tn_fun.specs.Trees.{token_name}
use Rattle.tn_fun_words.specs.declared.note.Note.{Note}
use Rattle.tn_fun_words.specs.declared.note.Note.TheVariants as notes

-- a note, of a text
abbrev pub fun_note_seen : List ℕ → Note → FunNote
fun_note_seen text (notes.WholeInList v) = whole_in_list (token_name text v) v.from
fun_note_seen text (notes.BindingsCalled v) = bindings_called v.from
fun_note_seen text (notes.AnyInExpression v) = any_in_expression v.from
fun_note_seen text (notes.TestEndsNode v) = test_ends_node (token_name text v) v.from

-- where there is one
abbrev pub fun_notes_seen : List ℕ → Option Note → List FunNote
fun_notes_seen text None = []
fun_notes_seen text (Some n) = fun_note_seen text n ∷ []

-- of all parts of what a head's list is matched with, by the names of the head
abbrev pub notes_in_head : ClauseNames → FunExpr → List FunNote
notes_in_head ns e = flat_map (note_in_head ns) (noted_parts_of e)
