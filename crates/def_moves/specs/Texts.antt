-- Texts of moves: which directives a text stands for in a run of a program (own).
-- Depends on blanks and comments of texts, on the written text of atoms, and on the initial processes of a program.
use Rattle.std.specs.Prelude.{◌≡◌, ◌⊎◌, ℕ, suc, ◌+◌, ◌<◌, ◌≤◌, ◌^◌, List, [], ◌∷◌, length, take, drop, Bool, true, false, not, ◌||◌, ◌==◌, if◌then◌else◌, decimal, codes}
use Rattle.std.specs.Str.{bytes_eq}
use Rattle.def_term.specs.Alive.{FIRST_PID}
use Rattle.def_term.specs.Text.{is_digit, atom_text}
use Rattle.def_text.specs.Tokens.{is_blank, gap_len}
use Rattle.def_text.specs.Scan.{run_len}
use Rattle.def_text.specs.Spelling.{LENGTH}
use Rattle.def_script.specs.Program.{Entry, Program}
use Rattle.def_run.specs.Run.{JOURNAL}
use Rattle.def_moves.specs.Directives.{Directive, times, until_idle, everybody, picks_of_directives}

-- ---- pieces of a text

-- a blank, and the `%` of a comment
abbrev pub is_gap_byte : ℕ → Bool
is_gap_byte b = is_blank b || (b == 37)

-- these, `*` and `!` end what says who moves
abbrev pub ends_mover : ℕ → Bool
ends_mover b = is_gap_byte b || (b == 42) || (b == 33)

-- how many bytes are before the first that ends it outside quotes; in quotes a backslash goes with the byte after it
abbrev pub mover_len : (inside escaped : Bool) → List ℕ → ℕ
mover_len inside escaped [] = 0
mover_len inside true (b ∷ bs) = mover_len inside false bs + 1
mover_len true false (b ∷ bs) = mover_len (not (b == 39)) (b == 92) bs + 1
mover_len false false (b ∷ bs) = if ends_mover b then 0 else mover_len (b == 39) false bs + 1

-- a piece of a text: what says who moves, and what says how often
pub record MovesPiece : Type 0 where
  pub mover : List ℕ
  pub amount : List ℕ

-- how many bytes before the next blank or comment say how often
abbrev pub amount_len : List ℕ → ℕ
amount_len bs = run_len (λ b. not (is_gap_byte b)) bs

-- the first piece of these bytes, which begin with no blank and no comment
abbrev pub first_piece : List ℕ → MovesPiece
first_piece bs = let n : ℕ = mover_len false false bs in record { mover = take n bs; amount = take (amount_len (drop n bs)) (drop n bs) }

-- how many bytes a piece has
abbrev pub piece_len : MovesPiece → ℕ
piece_len x = length x.mover + length x.amount

-- what is left after blanks and comments
abbrev pub after_gap : List ℕ → List ℕ
after_gap bs = drop (gap_len false bs) bs

-- and after the first piece
abbrev pub after_piece : List ℕ → List ℕ
after_piece bs = drop (piece_len (first_piece (after_gap bs))) (after_gap bs)

-- ---- who moves

-- the initial processes, from this pid on, whose function's name is written so
abbrev pub pids_from : List ℕ → ℕ → List Entry → List ℕ
pids_from name pid [] = []
pids_from name pid (e ∷ es) =
    let later : List ℕ = pids_from name (suc pid) es in
    if bytes_eq name (atom_text e.function_name) then pid ∷ later else later

-- the initial processes of a program whose function's name is written so
abbrev pub pids_named : Program → List ℕ → List ℕ
pids_named p name = pids_from name FIRST_PID p.entries

-- a pick's number, or the name of the function in which just one initial process starts
abbrev pub IsMover : Program → List ℕ → ℕ → Type 0
IsMover p [] pick = ⊥
IsMover p (b ∷ bs) pick = ((is_digit b ≡ true) × (b ∷ bs ≡ decimal pick) × (pick < 2 ^ 32)) ⊎ ((is_digit b ≡ false) × (pids_named p (b ∷ bs) ≡ pick ∷ []))

-- ---- directives

-- nothing more is one pick, and `*` with a number up to 65,535 so many
abbrev pub IsCount : List ℕ → ℕ → Type 0
IsCount amount count = ((amount ≡ []) × (count ≡ 1)) ⊎ ((amount ≡ 42 ∷ decimal count) × (count < 2 ^ 16))

-- the directive that a piece stands for; `!` is until it is idle, and `*` alone is everybody
abbrev pub IsPieceOf : Program → MovesPiece → Directive → Type 0
IsPieceOf p x (times count pick) = IsMover p x.mover pick × IsCount x.amount count
IsPieceOf p x (until_idle pick) = IsMover p x.mover pick × (x.amount ≡ codes "!")
IsPieceOf p x everybody = (x.mover ≡ []) × (x.amount ≡ codes "*")

-- the directives that a text stands for, one for each piece, with blanks and comments before, between and after them
abbrev pub StandsFor : Program → List ℕ → List Directive → Type 0
StandsFor p text [] = after_gap text ≡ []
StandsFor p text (d ∷ ds) = (0 < length (after_gap text)) × IsPieceOf p (first_piece (after_gap text)) d × StandsFor p (after_piece text) ds

-- the picks of a text of moves, which has at most as many bytes as a script may have, in a run of a program
pub record HasMoves (p : Program) (text picks : List ℕ) : Type 0 where
  pub directives : List Directive
  pub short : length text ≤ LENGTH
  pub stands : StandsFor p text directives
  pub made : picks ≡ picks_of_directives p JOURNAL directives

-- ---- texts that stand for none

-- the piece stands for no directive
abbrev pub IsNoPiece : Program → MovesPiece → Type 0
IsNoPiece p x = (d : Directive) → IsPieceOf p x d → ⊥

-- of bytes that begin at this offset of a text the first piece that stands for no directive is at that place, after
-- pieces that stand for these
abbrev pub IsFaultAfter : Program → (at : ℕ) → List ℕ → List Directive → (place : ℕ) → Type 0
IsFaultAfter p at bytes [] place = (0 < length (after_gap bytes)) × (place ≡ at + gap_len false bytes) × IsNoPiece p (first_piece (after_gap bytes))
IsFaultAfter p at bytes (d ∷ ds) place =
    (0 < length (after_gap bytes)) × IsPieceOf p (first_piece (after_gap bytes)) d
    × IsFaultAfter p (at + gap_len false bytes + piece_len (first_piece (after_gap bytes))) (after_piece bytes) ds place

-- the first piece of the text that stands for no directive is at this offset
abbrev pub IsMovesFault : Program → List ℕ → ℕ → Type 0
IsMovesFault p text place = (front : List Directive) × IsFaultAfter p 0 text front place
