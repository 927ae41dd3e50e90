-- The sections of an output with the moves of its messages, one after the other.
use Rattle.std.proofs.Common.{◌≡◌, ◌∙◌, ℕ, suc, ◌+◌, Bool, true, if◌then◌else◌, List, [], ◌∷◌, ◌++◌, get_or, sym, ap, append_assoc, add-one}
use Rattle.def_formats.specs.Lines.{text_lines}
use Rattle.def_formats.specs.Sections.{is_section_head, before_section, section_lines}
use Rattle.def_formats.specs.MovedRows.{moved_section, moved_sections}

-- a section and those after it
section_first : (moves : List (List ℕ)) (place : ℕ) (head : List ℕ) (lines : List (List ℕ)) → is_section_head head ≡ true
    → moved_sections moves place (head ∷ lines) ≡ moved_section (get_or moves place []) head (before_section lines) ++ moved_sections moves (suc place) lines
section_first moves place head lines is =
    ap (λ (b : Bool). if b then moved_section (get_or moves place []) head (before_section lines) ++ moved_sections moves (suc place) lines else moved_sections moves place lines) is

-- what was written with one more section, and what is left
pub section_written : (moves : List (List ℕ)) (place : ℕ) (own head after rest out new all : List ℕ) → own ≡ get_or moves place [] → is_section_head head ≡ true → text_lines rest ≡ head ∷ text_lines after
    → new ≡ out ++ moved_section own head (section_lines after) → out ++ moved_sections moves place (text_lines rest) ≡ all → new ++ moved_sections moves (place + 1) (text_lines after) ≡ all
section_written moves place own head after rest out new all is_own is_head cut written before =
    let left : List ℕ = moved_sections moves (suc place) (text_lines after) in
    ap (λ n. new ++ moved_sections moves n (text_lines after)) (add-one place)
    ∙ ap (λ l. l ++ left) (written ∙ ap (λ m. out ++ moved_section m head (section_lines after)) is_own)
    ∙ append_assoc out (moved_section (get_or moves place []) head (section_lines after)) left
    ∙ ap (λ l. out ++ l) (sym (section_first moves place head (text_lines after) is_head))
    ∙ ap (λ ls. out ++ moved_sections moves place ls) (sym cut)
    ∙ before
