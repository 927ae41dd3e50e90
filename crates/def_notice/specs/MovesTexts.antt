-- Why a text of moves is refused, and the line that says it (own): the exit status is 2.
-- Depends on the texts of atoms and pids, on the first pid, on places in a text and on what is printable.
use Rattle.std.specs.Prelude.{ℕ, suc, ◌==◌, Bool, false, List, [], ◌∷◌, ◌++◌, map, drop, codes, decimal, if◌then◌else◌}
use Rattle.std.specs.List.{list_any}
use Rattle.def_term.specs.Alive.{FIRST_PID}
use Rattle.def_term.specs.Names.{Name}
use Rattle.def_term.specs.Text.{atom_text, pid_text}
use Rattle.def_text.specs.Places.{LineColumn}
use Rattle.def_text.specs.Tokens.{is_printable}

-- why no directive stands at a piece of the text
pub data MovesReason : Type 0 where
  -- nothing that may move stands there, but this
  no_mover : (found : List ℕ) → MovesReason
  -- a digit is first, and this is no number
  no_number : (found : List ℕ) → MovesReason
  -- how often this moves isn't what stands after it
  no_count : (mover amount : List ℕ) → MovesReason
  -- no initial process starts in a function of this name; in these they start
  no_start : (name : List ℕ) → (functions : List Name) → MovesReason
  -- several do, which have these pids
  many_starts : (name : List ℕ) → (pids : List ℕ) → MovesReason
  -- it isn't known in which functions initial processes start
  no_program : MovesReason

-- a question mark in place of each byte that isn't printable
abbrev pub plain_byte : ℕ → ℕ
plain_byte b = if is_printable b then b else 63

abbrev pub plain_bytes : List ℕ → List ℕ
plain_bytes bytes = map plain_byte bytes

-- each pid, with this between it and what comes before
abbrev pub pids_after : List ℕ → List ℕ → List ℕ
pids_after between [] = []
pids_after between (n ∷ ns) = between ++ pid_text n ++ pids_after (codes ", ") ns

-- pids with commas between them
abbrev pub pids_text : List ℕ → List ℕ
pids_text ns = pids_after [] ns

-- a function in which an initial process starts, with its pid
abbrev pub one_start_text : List ℕ → ℕ → Name → List ℕ
one_start_text between pid f = between ++ atom_text f ++ codes " is " ++ pid_text pid

-- each of these functions, where the first of the pids is this
abbrev pub starts_after : List ℕ → ℕ → List Name → List ℕ
starts_after between pid [] = []
starts_after between pid (f ∷ fs) = one_start_text between pid f ++ starts_after (codes ", ") (suc pid) fs

-- of all initial processes
abbrev pub starts_text : List Name → List ℕ
starts_text fs = starts_after (codes "; ") FIRST_PID fs

-- what stands there instead
abbrev pub instead_text : List ℕ → List ℕ
instead_text [] = codes ", found nothing"
instead_text (b ∷ bs) = codes ", found '" ++ plain_bytes (b ∷ bs) ++ codes "'"

-- the first byte is `*`
abbrev pub begins_with_star : List ℕ → Bool
begins_with_star [] = false
begins_with_star (b ∷ bs) = b == 42

-- what may stand after who moves: after `*` how often, and after `!` nothing
abbrev pub amount_text : List ℕ → List ℕ
amount_text amount = (if begins_with_star amount then codes "* a number up to 65535 without a leading zero is expected" else codes "! a blank is expected") ++ instead_text (drop 1 amount)

-- one of the bytes is this one
abbrev pub has_mark : ℕ → List ℕ → Bool
has_mark mark name = list_any (λ b. b == mark) name

-- how a name is written that has a comma, a colon or a slash
abbrev pub marks_hint_text : List ℕ → List ℕ
marks_hint_text name =
    if has_mark 44 name then codes ": moves have blanks between them, and no commas" else
    if has_mark 58 name then codes ": a function is written by its name alone" else
    if has_mark 47 name then codes ": a function is written by its name alone" else
    []

-- how who moves is written, where this is a pid, begins with a quote or has such a mark
abbrev pub mover_hint_text : List ℕ → List ℕ
mover_hint_text [] = []
mover_hint_text (b ∷ bs) =
    if b == 60 then codes ": a process is written by the number in its pid, as 100 for <0.100.0>" else
    if b == 39 then codes ": a name has quotes only where its atom needs them" else
    marks_hint_text (b ∷ bs)

-- the reason in words
abbrev pub moves_reason_text : MovesReason → List ℕ
moves_reason_text (no_mover found) = codes "a number, a name or `*` alone is expected" ++ instead_text found
moves_reason_text (no_number found) = codes "a number below 4294967296 without a leading zero is expected" ++ instead_text found
moves_reason_text (no_count mover amount) = codes "after " ++ plain_bytes mover ++ amount_text amount
moves_reason_text (no_start name fs) = codes "no initial process starts in a function " ++ plain_bytes name ++ mover_hint_text name ++ starts_text fs
moves_reason_text (many_starts name ns) = codes "several initial processes start in a function " ++ plain_bytes name ++ codes ": " ++ pids_text ns
moves_reason_text no_program = []

-- why a text of moves is refused
pub data BadMoves : Type 0 where
  -- it has more bytes than a text may have
  too_many_bytes : BadMoves
  -- no directive stands at this place
  no_directive_at : LineColumn → MovesReason → BadMoves

-- the line
abbrev pub bad_moves_text : BadMoves → List ℕ
bad_moves_text too_many_bytes = codes "moves: longer than 1048576 bytes"
bad_moves_text (no_directive_at p r) = codes "moves:" ++ decimal p.line ++ codes ":" ++ decimal p.column ++ codes ": " ++ moves_reason_text r
