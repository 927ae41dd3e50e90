-- The sections of an output: a line that begins with `== `, and the lines up to the next one (own).
-- Depends on the lines of a text, and on the text of an atom.
use Rattle.std.specs.Prelude.{ℕ, ◌+◌, nat_eq, Bool, if◌then◌else◌, List, [], ◌∷◌, ◌++◌, take, drop, codes}
use Rattle.std.specs.List.{starts_with}
use Rattle.std.specs.Str.{bytes_eq}
use Rattle.def_formats.specs.Lines.{text_lines, atom_length}

abbrev pub is_section_head : List ℕ → Bool
is_section_head line = starts_with nat_eq line (codes "== ")

-- the lines before the next section
abbrev pub before_section : List (List ℕ) → List (List ℕ)
before_section [] = []
before_section (l ∷ ls) = if is_section_head l then [] else l ∷ before_section ls

-- what a function gives of each section: of its first line and of the lines after it
abbrev pub by_sections : (List ℕ → List (List ℕ) → List ℕ) → List (List ℕ) → List ℕ
by_sections f [] = []
by_sections f (l ∷ ls) = (if is_section_head l then f l (before_section ls) else []) ++ by_sections f ls

-- the lines at the front of a text, before the next section
abbrev pub section_lines : List ℕ → List (List ℕ)
section_lines text = before_section (text_lines text)

-- ---- the first line of a section

-- a session with the texts of its name and of its tracer; the replies; or the journal
pub data Section : Type 0 where
  session_section : (name tracer : List ℕ) → Section
  replies_section : Section
  journal_section : Section

-- the name of a session: the atom after `== session `
abbrev pub name_after_head : List ℕ → List ℕ
name_after_head head = let rest : List ℕ = drop 11 head in take (atom_length rest) rest

-- its tracer: what is after its name and ` tracer `
abbrev pub tracer_after_head : List ℕ → List ℕ
tracer_after_head head = let rest : List ℕ = drop 11 head in drop (atom_length rest + 8) rest

abbrev pub section_of : List ℕ → Section
section_of head =
    if bytes_eq head (codes "== replies") then replies_section else
    if bytes_eq head (codes "== journal") then journal_section else session_section (name_after_head head) (tracer_after_head head)
