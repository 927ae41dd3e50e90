-- The lines of a text, and the parts of a line (own).
use Rattle.std.specs.Prelude.{ℕ, suc, ◌==◌, Bool, false, not, ◌&&◌, if◌then◌else◌, List, [], ◌∷◌}
use Rattle.std.specs.List.{slice_split, before_first, after_first, prefix_len}
use Rattle.def_term.specs.Text.{is_name_byte}

-- ---- lines

-- one piece, or none where it is empty
abbrev pub unless_empty : List ℕ → List (List ℕ)
unless_empty [] = []
unless_empty (c ∷ cs) = (c ∷ cs) ∷ []

-- all pieces, but for the last one where it is empty
abbrev pub without_empty_end : List (List ℕ) → List (List ℕ)
without_empty_end [] = []
without_empty_end (piece ∷ []) = unless_empty piece
without_empty_end (piece ∷ next ∷ more) = piece ∷ without_empty_end (next ∷ more)

-- the lines of a text: each ends with a line feed, and what follows the last line feed is a line where it isn't empty
abbrev pub text_lines : List ℕ → List (List ℕ)
text_lines text = without_empty_end (slice_split (λ b. b == 10) text)

-- ---- parts of a line

-- what is before the first byte of this kind, or all where there is none
abbrev pub before_byte : ℕ → List ℕ → List ℕ
before_byte c text = before_first (λ b. b == c) text

-- what is after it, or nothing where there is none
abbrev pub past_byte : ℕ → List ℕ → List ℕ
past_byte c text = after_first (λ b. b == c) text

-- the pid of a trace message's text: what is between the first two commas
abbrev pub message_pid : List ℕ → List ℕ
message_pid line = before_byte 44 (past_byte 44 line)

-- its kind: what is between the next two
abbrev pub message_kind : List ℕ → List ℕ
message_kind line = before_byte 44 (past_byte 44 (past_byte 44 line))

-- ---- the text of an atom at the front of a text

-- the length of what ends with the first quote that has no backslash before it; whether a backslash is before the text
abbrev pub quoted_length : Bool → List ℕ → ℕ
quoted_length escapes [] = 0
quoted_length escapes (c ∷ cs) = if not escapes && (c == 39) then 1 else suc (quoted_length (not escapes && (c == 92)) cs)

-- the length of the atom's text: up to its closing quote, or all its letters, digits, `_` and `@`
abbrev pub atom_length : List ℕ → ℕ
atom_length [] = 0
atom_length (c ∷ cs) = if c == 39 then suc (quoted_length false cs) else prefix_len is_name_byte (c ∷ cs)

-- the length of what is before the first colon outside of quotes
abbrev pub value_length : (is_quoted escapes : Bool) → List ℕ → ℕ
value_length is_quoted escapes [] = 0
value_length is_quoted escapes (c ∷ cs) =
    if not is_quoted && (c == 58) then 0 else suc (value_length (if not escapes && (c == 39) then not is_quoted else is_quoted) (is_quoted && (not escapes && (c == 92))) cs)
