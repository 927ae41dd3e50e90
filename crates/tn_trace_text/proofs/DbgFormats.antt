-- The first format that a line has.
use Rattle.std.proofs.Common.{◌≡◌, ◌∙◌, ℕ, ◌+◌, ◌<◌, true, false, List, ◌∷◌, length, slice_index_or, drop, map, Option, Some, refl, ap, sym}
use Rattle.std.proofs.lemmas.List.{drop_more}
use Rattle.def_trace_text.specs.DbgFormats.{DbgFormat, has_format, first_format}
use Rattle.tn_trace_text.specs.DbgFormats.{dbg_format_seen}
use Rattle.tn_trace_text.specs.declared.dbg.DbgFormat as code

first_of : (f : DbgFormat) (fs : List DbgFormat) (line : List ℕ) → has_format f.printed line ≡ true → first_format (f ∷ fs) line ≡ Some f
first_of f fs line e = rw e refl

not_first : (f : DbgFormat) (fs : List DbgFormat) (line : List ℕ) → has_format f.printed line ≡ false → first_format (f ∷ fs) line ≡ first_format fs line
not_first f fs line e = rw e refl

from_here : (fs : List code.DbgFormat) (i : ℕ) (d : code.DbgFormat) → i < length fs → map dbg_format_seen (drop i fs) ≡ dbg_format_seen (slice_index_or fs i d) ∷ map dbg_format_seen (drop (i + 1) fs)
from_here fs i d below = ap (map dbg_format_seen) (drop_more fs i d below)

pub format_found :
    (fs : List code.DbgFormat) (i : ℕ) (d : code.DbgFormat) (line : List ℕ) (answer : Option DbgFormat) → i < length fs → first_format (map dbg_format_seen (drop i fs)) line ≡ answer
    → has_format (dbg_format_seen (slice_index_or fs i d)).printed line ≡ true → Some (dbg_format_seen (slice_index_or fs i d)) ≡ answer
format_found fs i d line answer below h e =
    sym (ap (λ l. first_format l line) (from_here fs i d below) ∙ first_of (dbg_format_seen (slice_index_or fs i d)) (map dbg_format_seen (drop (i + 1) fs)) line e) ∙ h

pub format_later :
    (fs : List code.DbgFormat) (i : ℕ) (d : code.DbgFormat) (line : List ℕ) (answer : Option DbgFormat) → i < length fs → first_format (map dbg_format_seen (drop i fs)) line ≡ answer
    → has_format (dbg_format_seen (slice_index_or fs i d)).printed line ≡ false → first_format (map dbg_format_seen (drop (i + 1) fs)) line ≡ answer
format_later fs i d line answer below h e =
    sym (ap (λ l. first_format l line) (from_here fs i d below) ∙ not_first (dbg_format_seen (slice_index_or fs i d)) (map dbg_format_seen (drop (i + 1) fs)) line e) ∙ h
