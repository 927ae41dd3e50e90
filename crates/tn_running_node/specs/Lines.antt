-- The lines of a session here and on a node, as they are written.
use Rattle.std.specs.Prelude.{◌≡◌, ℕ, zero, suc, Bool, false, if◌then◌else◌, List, [], ◌∷◌, ◌++◌, flat_map, slice_get, Option, Some, None, codes}
use Rattle.std.specs.Str.{bytes_eq}
use Rattle.std.specs.declared.vec.Vec.{Vec}
use Rattle.def_term.specs.Text.{atom_text}
use Rattle.def_running_node.specs.NodeRuns.{NodeLine}
use Rattle.def_running_node.specs.NodeComparisons.{lines_with_name, named_line_text, lines_differ, lines_are_open}
use Rattle.tn_running_node.specs.declared.lines.LineKinds.{LineKinds}

-- there is such a line, which is this one
abbrev pub is_line : Option (List ℕ) → List ℕ → Bool
is_line None l = false
is_line (Some n) l = bytes_eq l n

-- how many of these lines are those from a place on
abbrev pub common_from : (place : ℕ) → (here there : List (List ℕ)) → ℕ
common_from i [] ns = zero
common_from i (m ∷ ms) ns = if is_line (slice_get ns i) m then suc (common_from (suc i) ms ns) else zero

-- a line after the name of its session and a mark
abbrev pub named_text : (name mark line : List ℕ) → List ℕ
named_text name mark line = codes "  " ++ atom_text name ++ codes ": " ++ mark ++ line ++ 10 ∷ []

-- the text of these lines
abbrev pub text_of_lines : (name : List ℕ) → List NodeLine → List ℕ
text_of_lines name ls = flat_map named_line_text (lines_with_name name ls)

-- these lines were appended, and this is what they are
pub record PutsBothLines {A : Type 0} (name : List ℕ) (ls : List NodeLine) (out out' : Vec ℕ A) (kinds : LineKinds) : Type 0 where
  pub written : out'.items ≡ out.items ++ text_of_lines name ls
  pub differs : kinds.differs ≡ lines_differ (lines_with_name name ls)
  pub open_lines : kinds.is_open ≡ lines_are_open (lines_with_name name ls)
