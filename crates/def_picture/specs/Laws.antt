-- What is promised of pictures (own).
-- Depends on pictures, on the history of a run and on listings.
use Rattle.std.specs.Prelude.{◌≡◌, ◌≢◌, ℕ, zero, suc, ◌≤◌, ◌+◌, ◌*◌, List, [], ◌∷◌, ◌++◌, map, flat_map, length, All}
use Rattle.def_term.specs.Names.{Name}
use Rattle.def_term.specs.Text.{w}
use Rattle.def_script.specs.Program.{Program}
use Rattle.def_script.specs.Script.{creations}
use Rattle.def_run.specs.Run.{events}
use Rattle.def_run.specs.Listing.{messages}
use Rattle.def_node.specs.Process.{FRAMES}
use Rattle.def_picture.specs.Picture.{Life, Report, shape_of, label_of, rows_of, texts_in_rows}
use Rattle.def_picture.specs.Svg.{column_width, columns_end}
use Rattle.def_picture.specs.Templates.{xml_text}

-- the name is that of the session at this place, from 0, and of none before it
abbrev pub IsNameAt : ℕ → Name → List (Name × Name) → Type 0
IsNameAt k n [] = ⊥
IsNameAt zero n (s ∷ ss) = n ≡ s.0
IsNameAt (suc k) n (s ∷ ss) = (n ≢ s.0) × IsNameAt k n ss

-- the messages of a session in the rows are the lines of its listing, each once and in their order
abbrev pub PictureShowsTheListing : Type 0
PictureShowsTheListing =
    (p : Program) (picks : List ℕ) (k : ℕ) (n : Name) → IsNameAt k n (creations p.commands) → texts_in_rows (suc k) (rows_of p picks) ≡ map w (messages n p picks)

-- the number is one of so many, from 1
abbrev pub IsOfOneSession : ℕ → Report → Type 0
IsOfOneSession count r = (1 ≤ r.session) × (r.session ≤ count)

-- and each message in a row is of a session of the control list, so that there is no other
abbrev pub PictureShowsSessionsAlone : Type 0
PictureShowsSessionsAlone = (p : Program) (picks : List ℕ) → All (IsOfOneSession (length (creations p.commands))) (flat_map (λ r. r.reports) (rows_of p picks))

-- each event and command has a row, in their order
abbrev pub PictureShowsTheEvents : Type 0
PictureShowsTheEvents = (p : Program) (picks : List ℕ) → (map (λ r. r.shape) (rows_of p picks) ≡ map shape_of (events p picks)) × (map (λ r. r.label) (rows_of p picks) ≡ map label_of (events p picks))

-- a frame of a process is left of the next column, with 40 pixels for its mark and what is beside it
abbrev pub FrameIsInItsColumn : Type 0
FrameIsInItsColumn = (l : Life) (d : ℕ) → d ≤ l.depth → d ≤ FRAMES → 8 * d + 40 ≤ column_width l

-- where the column of one more process ends
abbrev pub ColumnsAreSideBySide : Type 0
ColumnsAreSideBySide = (ls : List Life) (l : Life) → columns_end (ls ++ l ∷ []) ≡ columns_end ls + column_width l

-- a byte that has a name isn't in the content of an element
abbrev pub IsContent : ℕ → Type 0
IsContent b = (b ≢ 60) × (b ≢ 62) × (b ≢ 34)

-- whatever the text
abbrev pub XmlTextIsContent : Type 0
XmlTextIsContent = (bs : List ℕ) → All IsContent (xml_text bs)
