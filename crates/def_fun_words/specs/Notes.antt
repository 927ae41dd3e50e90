-- The notes on a fun that has a specification: where that isn't what the fun seems to say, or ends a node (own).
-- Depends on the fun's tree, its names and places. Each was measured with `dbg:fun2ms/1` and `erlang:match_spec_test/3` of OTP 27.
use Rattle.std.specs.Prelude.{ℕ, List, [], ◌∷◌, ◌++◌, flat_map, Bool, ◌||◌, if◌then◌else◌, codes, decimal, Ok, Err}
use Rattle.std.specs.Str.{bytes_eq}
use Rattle.def_term.specs.Names.{Name}
use Rattle.def_text.specs.Places.{place_at}
use Rattle.def_fun.specs.Trees.{FunExpr, variable, whole, atom, strings, in_parens, call, list, list_onto, tuple, before, between, FunExprs, none, more, FunHead, FunClause}
use Rattle.def_fun.specs.Variables.{matched_part, ClauseNames, names_of, VariableKind, the_whole, anything_there, variable_kind}
use Rattle.def_fun.specs.Refusals.{OrRefusal}
use Rattle.def_fun.specs.Answers.{fun_of_text}

-- what is noted, each at an offset: the name of the whole in the list; `bindings()`; `_` in a guard or body; an action with which a test ends the node
pub data FunNote : Type 0 where
  whole_in_list : Name → ℕ → FunNote
  bindings_called : ℕ → FunNote
  any_in_expression : ℕ → FunNote
  test_ends_node : Name → ℕ → FunNote

-- ---- heads

-- the parts of an expression, itself first
abbrev mutual
  pub noted_parts_of : FunExpr → List FunExpr
  noted_parts_of (variable at s) = variable at s ∷ []
  noted_parts_of (whole at n) = whole at n ∷ []
  noted_parts_of (atom at s) = atom at s ∷ []
  noted_parts_of (strings at s ss) = strings at s ss ∷ []
  noted_parts_of (in_parens at e) = in_parens at e ∷ noted_parts_of e
  noted_parts_of (call at s es) = call at s es ∷ parts_of_each es
  noted_parts_of (list at es) = list at es ∷ parts_of_each es
  noted_parts_of (list_onto at es e) = list_onto at es e ∷ (parts_of_each es ++ noted_parts_of e)
  noted_parts_of (tuple at es) = tuple at es ∷ parts_of_each es
  noted_parts_of (before at o e) = before at o e ∷ noted_parts_of e
  noted_parts_of (between at o l r) = between at o l r ∷ (noted_parts_of l ++ noted_parts_of r)

  -- of several
  pub parts_of_each : FunExprs → List FunExpr
  parts_of_each none = []
  parts_of_each (more e es) = noted_parts_of e ++ parts_of_each es

-- the name of the whole, where it occurs in what is matched
abbrev pub note_of_kind_in_head : VariableKind → Name → ℕ → List FunNote
note_of_kind_in_head the_whole s at = whole_in_list s at ∷ []
note_of_kind_in_head k s at = []

-- of a part of what is matched
abbrev pub note_in_head : ClauseNames → FunExpr → List FunNote
note_in_head ns (variable at s) = note_of_kind_in_head (variable_kind ns s) s at
note_in_head ns e = []

-- ---- guards and bodies

-- `_`, which is no name of the whole
abbrev pub note_of_kind : VariableKind → ℕ → List FunNote
note_of_kind anything_there at = any_in_expression at ∷ []
note_of_kind k at = []

-- the actions that set or clear trace flags ("enable_trace", "disable_trace", "trace")
abbrev pub changes_flags : Name → Bool
changes_flags s = bytes_eq s (codes "enable_trace") || (bytes_eq s (codes "disable_trace") || bytes_eq s (codes "trace"))

-- a call; in a condition no action is one
abbrev pub note_of_call : Name → ℕ → List FunNote
note_of_call s at = if bytes_eq s (codes "bindings") then bindings_called at ∷ [] else (if changes_flags s then test_ends_node s at ∷ [] else [])

-- of a part of a condition or of an expression of a body
abbrev pub note_in_expr : ClauseNames → FunExpr → List FunNote
note_in_expr ns (variable at s) = note_of_kind (variable_kind ns s) at
note_in_expr ns (call at s es) = note_of_call s at
note_in_expr ns e = []

-- ---- funs

-- of the parts of an expression
abbrev pub expr_notes : ClauseNames → FunExpr → List FunNote
expr_notes ns e = flat_map (note_in_expr ns) (noted_parts_of e)

-- of several
abbrev pub row_notes : ClauseNames → List FunExpr → List FunNote
row_notes ns es = flat_map (expr_notes ns) es

-- of a head
abbrev pub head_notes : FunHead → List FunNote
head_notes h = flat_map (note_in_head (names_of h)) (noted_parts_of (matched_part h))

-- of a clause, in the order of its text
abbrev pub clause_notes : FunClause → List FunNote
clause_notes k = head_notes k.head ++ (flat_map (row_notes (names_of k.head)) k.guards ++ row_notes (names_of k.head) k.body)

-- of a fun
abbrev pub fun_notes : List FunClause → List FunNote
fun_notes ks = flat_map clause_notes ks

-- ---- texts

-- the offset of what is noted
abbrev pub note_offset : FunNote → ℕ
note_offset (whole_in_list s at) = at
note_offset (bindings_called at) = at
note_offset (any_in_expression at) = at
note_offset (test_ends_node s at) = at

-- what the specification has there
abbrev pub note_words : FunNote → List ℕ
note_words (whole_in_list s at) = s ++ codes " is the whole, and in the list it is the atom '$_'"
note_words (bindings_called at) = codes "bindings() is the atom '$*', on a node and here"
note_words (any_in_expression at) = codes "_ is the atom '_' here"
note_words (test_ends_node s at) = codes "erlang:match_spec_test/3 of OTP 27 can end the node at " ++ s

-- `fun:LINE:COLUMN: `
abbrev pub note_place : List ℕ → ℕ → List ℕ
note_place text at = codes "fun:" ++ decimal (place_at text at).line ++ codes ":" ++ decimal (place_at text at).column ++ codes ": "

-- the place and the words
abbrev pub note_line : List ℕ → FunNote → List ℕ
note_line text x = note_place text (note_offset x) ++ note_words x ++ 10 ∷ []

-- the notes of a text that is a fun
abbrev pub notes_or_none : OrRefusal (List FunClause) → List FunNote
notes_or_none (Ok ks) = fun_notes ks
notes_or_none (Err r) = []

-- on standard error, each a line
abbrev pub notes_text : List ℕ → List ℕ
notes_text text = flat_map (note_line text) (notes_or_none (fun_of_text text))
