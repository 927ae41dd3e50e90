-- What an output must be (own).
-- Depends on the lines and the sections of a text, and on the texts of atoms.
use Rattle.std.specs.Prelude.{◌≡◌, ◌⊎◌, ℕ, nat_eq, ◌&&◌, Bool, true, false, not, if◌then◌else◌, List, [], ◌∷◌, ◌++◌, map, find, Option, codes}
use Rattle.std.specs.Borrow.{Bor}
use Rattle.std.specs.Cmp.Lexicographic.{pointwise}
use Rattle.std.specs.List.{list_all, list_any, starts_with}
use Rattle.std.specs.Option.{option_map_or}
use Rattle.std.specs.Str.{bytes_eq}
use Rattle.def_term.specs.Atoms.{IsAtomText}
use Rattle.def_term.specs.Text.{atom_text}
use Rattle.def_formats.specs.Lines.{text_lines}
use Rattle.def_formats.specs.Sections.{before_section}
use Rattle.tn_expectation.specs.declared.expectation.Expectation.{Expectation}
use Rattle.tn_expectation.specs.declared.listing.SessionListing.{SessionListing}

-- ---- lines

-- one of the lines of a text is this one
abbrev pub has_line : (text line : List ℕ) → Bool
has_line text line = list_any (λ l. bytes_eq l line) (text_lines text)

-- the first line of these that a text hasn't, and the first that it has
abbrev pub first_absent : (text : List ℕ) → List (List ℕ) → Option (List ℕ)
first_absent text lines = find (λ line. not (has_line text line)) lines

abbrev pub first_present : (text : List ℕ) → List (List ℕ) → Option (List ℕ)
first_present text lines = find (has_line text) lines

-- the bytes of words
abbrev pub words_of : List (Bor (List ℕ)) → List (List ℕ)
words_of words = map (λ w. w.now) words

-- ---- listings

-- what the first line of the listing of a session begins with, by the session's name; no session has a name that is no
-- text of an atom, and no line has a line feed
abbrev pub IsListingHead : (name head : List ℕ) → Type 0
IsListingHead name head =
    (IsAtomText name × (head ≡ codes "== session " ++ atom_text name ++ codes " tracer ")) ⊎ ((¬ (IsAtomText name)) × (head ≡ 10 ∷ []))

-- the same lines, one by one
abbrev pub are_same_lines : (one other : List (List ℕ)) → Bool
are_same_lines one other = pointwise bytes_eq one other

-- of these lines the first that begins with this head, and those after it up to the next section, are the listing
abbrev pub has_listing : (head : List ℕ) → (lines listing : List (List ℕ)) → Bool
has_listing head [] listing = false
has_listing head (l ∷ ls) listing =
    if starts_with nat_eq l head then are_same_lines (l ∷ before_section ls) listing else has_listing head ls listing

-- an output has this listing of a session
abbrev pub lists_session : (output : List ℕ) → SessionListing → Bool
lists_session output s = has_listing s.head.now (text_lines output) (text_lines s.lines.now)

-- ---- all that is expected

-- the output is the one that is expected, it has the listing that is expected, each line that it must have, and none that
-- it must not have
abbrev pub meets_expectation : Expectation → List ℕ → Bool
meets_expectation e output =
    option_map_or (λ whole. bytes_eq output whole.now) e.output true
    && (option_map_or (lists_session output) e.session true
    && (list_all (has_line output) (words_of e.lines.now)
    && list_all (λ line. not (has_line output line)) (words_of e.no_lines.now)))
