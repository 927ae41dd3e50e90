-- The sections of a run's output.
use Rattle.std.proofs.Common.{◌≡◌, ◌∙◌, not, ℕ, ◌<◌, ◌==◌, Bool, true, false, if◌then◌else◌, List, [], ◌∷◌, ◌++◌, All, length, map, flat_map, codes, refl, sym, ap, ap₂, append_assoc, append-nil, arith}
use Rattle.std.specs.List.{list_all, slice_split}
use Rattle.std.proofs.lemmas.List.Splits.{slice_split_at, length-slice_split}
use Rattle.std.proofs.lemmas.List.Elements.{All-head, All-tail, All-nil, All-cons}
use Rattle.std.proofs.lemmas.Bool.{and_parts}
use Rattle.def_term.specs.Tree.{Tree}
use Rattle.def_term.specs.Names.{Name}
use Rattle.def_term.specs.Text.{w}
use Rattle.def_script.specs.Program.{Program}
use Rattle.def_script.specs.Script.{creations}
use Rattle.def_run.specs.Run.{moves}
use Rattle.def_run.specs.Picks.{picks_text}
use Rattle.def_run.specs.Listing.{messages, replies, lines_of, listings_text, program_output}
use Rattle.def_formats.specs.Lines.{text_lines, without_empty_end}
use Rattle.def_formats.specs.Sections.{is_section_head, before_section, by_sections}
use Rattle.def_formats.specs.Laws.{session_head, IsOneLine, IsContentLine, SectionsAreOfTheRun}

-- a piece before others is a line
line_before : (piece : List ℕ) (pieces : List (List ℕ)) → 0 < length pieces → without_empty_end (piece ∷ pieces) ≡ piece ∷ without_empty_end pieces
line_before piece [] some = absurd (omega (arith, some))
line_before piece (next ∷ more) some = refl

no_line_feed : (b : Bool) → not b ≡ true → b ≡ false
no_line_feed true e = absurd (cc)
no_line_feed false e = refl

all_within : (text : List ℕ) → IsOneLine text → All (λ b. (b == 10) ≡ false) text
all_within [] h = All-nil (λ b. (b == 10) ≡ false)
all_within (c ∷ cs) h =
    let parts = and_parts (not (c == 10)) (list_all (λ b. not (b == 10)) cs) h in
    All-cons (λ b. (b == 10) ≡ false) c cs (no_line_feed (c == 10) parts.0) (all_within cs parts.1)

-- a line that is ended is the first
pub line_cut : (l rest : List ℕ) → IsOneLine l → text_lines (l ++ 10 ∷ rest) ≡ l ∷ text_lines rest
line_cut l rest one =
    let count = length-slice_split (λ b. b == 10) rest in
    ap without_empty_end (slice_split_at (λ b. b == 10) l 10 rest (all_within l one) refl) ∙ line_before l (slice_split (λ b. b == 10) rest) (omega (arith, count))

abbrev IsTermContent : Tree → Type 0
IsTermContent t = IsContentLine (w t)

-- so are the lines of terms
lines_cut : (ts : List Tree) (rest : List ℕ) → All IsTermContent ts → text_lines (lines_of ts ++ rest) ≡ map w ts ++ text_lines rest
lines_cut [] rest h = refl
lines_cut (t ∷ ts) rest h =
    let apart : ((w t ++ 10 ∷ []) ++ lines_of ts) ++ rest ≡ w t ++ 10 ∷ (lines_of ts ++ rest) = simp append_assoc in
    ap text_lines apart ∙ line_cut (w t) (lines_of ts ++ rest) (All-head IsTermContent t ts h).0 ∙ ap (λ ls. w t ∷ ls) (lines_cut ts rest (All-tail IsTermContent t ts h))

-- lines that begin no section are before the next one
before_cut : (ts : List Tree) (rest : List (List ℕ)) → All IsTermContent ts → before_section (map w ts ++ rest) ≡ map w ts ++ before_section rest
before_cut [] rest h = refl
before_cut (t ∷ ts) rest h =
    ap (λ (b : Bool). if b then [] else w t ∷ before_section (map w ts ++ rest)) (All-head IsTermContent t ts h).1 ∙ ap (λ ls. w t ∷ ls) (before_cut ts rest (All-tail IsTermContent t ts h))

module _ (f : List ℕ → List (List ℕ) → List ℕ) where
  none_of : (ts : List Tree) (rest : List (List ℕ)) → All IsTermContent ts → by_sections f (map w ts ++ rest) ≡ by_sections f rest
  none_of [] rest h = refl
  none_of (t ∷ ts) rest h =
      ap (λ (b : Bool). (if b then f (w t) (before_section (map w ts ++ rest)) else []) ++ by_sections f (map w ts ++ rest)) (All-head IsTermContent t ts h).1 ∙ none_of ts rest (All-tail IsTermContent t ts h)

  -- a section, and what is after it
  section_cut : (head : List ℕ) (ts : List Tree) (rest : List (List ℕ)) → is_section_head head ≡ true → All IsTermContent ts → before_section rest ≡ []
      → by_sections f (head ∷ (map w ts ++ rest)) ≡ f head (map w ts) ++ by_sections f rest
  section_cut head ts rest begins h ends =
      ap (λ (b : Bool). (if b then f head (before_section (map w ts ++ rest)) else []) ++ by_sections f (map w ts ++ rest)) begins
      ∙ ap₂ (λ ls r. f head ls ++ r) (before_cut ts rest h ∙ ap (λ ls. map w ts ++ ls) ends ∙ append-nil (map w ts)) (none_of ts rest h)

  module _ (ms : Name → List Tree) where
    abbrev HasContent : Name × Name → Type 0
    HasContent s = All IsTermContent (ms s.0)

    abbrev IsHead : Name × Name → Type 0
    IsHead s = IsOneLine (session_head s.0 s.1)

    listing_apart : (s : Name × Name) (rest : List ℕ) → (session_head s.0 s.1 ++ 10 ∷ []) ++ lines_of (ms s.0) ++ rest ≡ session_head s.0 s.1 ++ 10 ∷ (lines_of (ms s.0) ++ rest)
    listing_apart s rest = simp append_assoc

    listing_cut : (s : Name × Name) (rest : List ℕ) → IsHead s → HasContent s
        → text_lines (((session_head s.0 s.1 ++ 10 ∷ []) ++ lines_of (ms s.0)) ++ rest) ≡ session_head s.0 s.1 ∷ (map w (ms s.0) ++ text_lines rest)
    listing_cut s rest one h =
        ap text_lines (listing_apart s rest) ∙ line_cut (session_head s.0 s.1) (lines_of (ms s.0) ++ rest) one
        ∙ ap (λ ls. session_head s.0 s.1 ∷ ls) (lines_cut (ms s.0) rest h)

    -- a listing begins a section
    listings_begin : (ss : List (Name × Name)) (rest : List ℕ) → All IsHead ss → All HasContent ss → before_section (text_lines rest) ≡ [] → before_section (text_lines (listings_text ms ss ++ rest)) ≡ []
    listings_begin [] rest one h ends = ends
    listings_begin (s ∷ ss) rest one h ends =
        ap (λ t. before_section (text_lines t)) (append_assoc ((session_head s.0 s.1 ++ 10 ∷ []) ++ lines_of (ms s.0)) (listings_text ms ss) rest)
        ∙ ap before_section (listing_cut s (listings_text ms ss ++ rest) (All-head IsHead s ss one) (All-head HasContent s ss h))

    listings_cut : (ss : List (Name × Name)) (rest : List ℕ) → All IsHead ss → All HasContent ss → before_section (text_lines rest) ≡ []
        → by_sections f (text_lines (listings_text ms ss ++ rest)) ≡ flat_map (λ s. f (session_head s.0 s.1) (map w (ms s.0))) ss ++ by_sections f (text_lines rest)
    listings_cut [] rest one h ends = refl
    listings_cut (s ∷ ss) rest one h ends =
        ap (λ t. by_sections f (text_lines t)) (append_assoc ((session_head s.0 s.1 ++ 10 ∷ []) ++ lines_of (ms s.0)) (listings_text ms ss) rest)
        ∙ ap (by_sections f) (listing_cut s (listings_text ms ss ++ rest) (All-head IsHead s ss one) (All-head HasContent s ss h))
        ∙ section_cut (session_head s.0 s.1) (ms s.0) (text_lines (listings_text ms ss ++ rest)) refl (All-head HasContent s ss h)
        (listings_begin ss rest (All-tail IsHead s ss one) (All-tail HasContent s ss h) ends)
        ∙ ap (λ r. f (session_head s.0 s.1) (map w (ms s.0)) ++ r) (listings_cut ss rest (All-tail IsHead s ss one) (All-tail HasContent s ss h) ends)
        ∙ sym (append_assoc (f (session_head s.0 s.1) (map w (ms s.0))) (flat_map (λ s. f (session_head s.0 s.1) (map w (ms s.0))) ss) (by_sections f (text_lines rest)))

-- what is after the listings
abbrev after_listings : List Tree → List ℕ → List ℕ
after_listings ts journal = codes "== replies\n" ++ (lines_of ts ++ (codes "== journal\n" ++ (journal ++ 10 ∷ [])))

journal_lines : (journal : List ℕ) → IsContentLine journal → text_lines (codes "== journal\n" ++ (journal ++ 10 ∷ [])) ≡ codes "== journal" ∷ journal ∷ []
journal_lines journal h =
    line_cut (codes "== journal") (journal ++ 10 ∷ []) refl ∙ ap (λ ls. codes "== journal" ∷ ls) (line_cut journal [] h.0)

after_lines : (ts : List Tree) (journal : List ℕ) → All IsTermContent ts → IsContentLine journal
    → text_lines (after_listings ts journal) ≡ codes "== replies" ∷ (map w ts ++ codes "== journal" ∷ journal ∷ [])
after_lines ts journal h j =
    line_cut (codes "== replies") (lines_of ts ++ (codes "== journal\n" ++ (journal ++ 10 ∷ []))) refl
    ∙ ap (λ ls. codes "== replies" ∷ ls) (lines_cut ts (codes "== journal\n" ++ (journal ++ 10 ∷ [])) h ∙ ap (λ ls. map w ts ++ ls) (journal_lines journal j))

journal_section : (f : List ℕ → List (List ℕ) → List ℕ) (journal : List ℕ) → IsContentLine journal → by_sections f (codes "== journal" ∷ journal ∷ []) ≡ f (codes "== journal") (journal ∷ [])
journal_section f journal j =
    ap (λ (b : Bool). f (codes "== journal") (if b then [] else journal ∷ []) ++ ((if b then f journal [] else []) ++ [])) j.1 ∙ append-nil (f (codes "== journal") (journal ∷ []))

after_sections : (f : List ℕ → List (List ℕ) → List ℕ) (ts : List Tree) (journal : List ℕ) → All IsTermContent ts → IsContentLine journal
    → by_sections f (text_lines (after_listings ts journal)) ≡ f (codes "== replies") (map w ts) ++ f (codes "== journal") (journal ∷ [])
after_sections f ts journal h j =
    ap (by_sections f) (after_lines ts journal h j)
    ∙ section_cut f (codes "== replies") ts (codes "== journal" ∷ journal ∷ []) refl h refl
    ∙ ap (λ r. f (codes "== replies") (map w ts) ++ r) (journal_section f journal j)

output_apart : (p : Program) (picks : List ℕ)
    → program_output p picks ≡ listings_text (λ s. messages s p picks) (creations p.commands) ++ after_listings (replies p picks) (picks_text (moves p picks))
output_apart p picks = simp append_assoc

pub sections_are_of_the_run : SectionsAreOfTheRun
sections_are_of_the_run f p picks h =
    let ms : Name → List Tree = λ s. messages s p picks in
    let rest : List ℕ = after_listings (replies p picks) (picks_text (moves p picks)) in
    ap (λ t. by_sections f (text_lines t)) (output_apart p picks)
    ∙ listings_cut f ms (creations p.commands) rest h.names h.listed (ap before_section (after_lines (replies p picks) (picks_text (moves p picks)) h.replied h.moved))
    ∙ ap (λ r. flat_map (λ s. f (session_head s.0 s.1) (map w (ms s.0))) (creations p.commands) ++ r) (after_sections f (replies p picks) (picks_text (moves p picks)) h.replied h.moved)
