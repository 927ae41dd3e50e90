-- What is wrong with a text of picks, and the text that says it (own): refusal 20.
-- Depends on the length of a text, on digits and on how much of a token is shown.
use Rattle.std.specs.Prelude.{ℕ, suc, ◌==◌, ◌&&◌, ◌^◌, nat_lt, Bool, not, List, [], ◌∷◌, ◌++◌, length, Option, Some, None, codes, decimal, if◌then◌else◌}
use Rattle.std.specs.List.{list_any}
use Rattle.std.specs.Option.{option_map, option_or}
use Rattle.def_term.specs.Text.{is_digit}
use Rattle.def_text.specs.Tokens.{all_are, number as number_of}
use Rattle.def_text.specs.Spelling.{LENGTH}
use Rattle.def_wording.specs.ShownTexts.{shown_text}

-- why a piece of the text is no pick
pub data PickFault : Type 0 where
  -- it has no bytes
  no_bytes : PickFault
  -- a byte of it is no digit: a carriage return, or else a line feed, or else one that texts of moves have, or another
  carriage_return line_feed of_moves no_decimal : PickFault
  -- it has more than one digit, and the first is 0
  leading_zero : PickFault
  -- its number has more than 32 bits
  too_great : PickFault

-- in words, after the piece
abbrev pub pick_fault_text : PickFault → List ℕ
pick_fault_text no_bytes = codes "is empty: one blank stands between each two picks, and none at an end"
pick_fault_text carriage_return = codes "has a carriage return: all picks are in one line"
pick_fault_text line_feed = codes "has a line feed: all picks are in one line"
pick_fault_text of_moves = codes "is no decimal number: a text of moves is given by --moves"
pick_fault_text no_decimal = codes "is no decimal number"
pick_fault_text leading_zero = codes "has a leading zero"
pick_fault_text too_great = codes "is greater than 4294967295"

-- the number of these digits has at most 32 bits
abbrev pub fits_a_pick : List ℕ → Bool
fits_a_pick digits = nat_lt (number_of digits) (2 ^ 32)

-- one of these bytes is this one
abbrev pub has_byte : ℕ → List ℕ → Bool
has_byte b bs = list_any (λ c. c == b) bs

-- of a piece of which a byte is no digit; the marks are `!` and `*`
abbrev pub byte_fault : List ℕ → PickFault
byte_fault bs =
    if has_byte 13 bs then carriage_return else
    if has_byte 10 bs then line_feed else
    if has_byte 33 bs then of_moves else
    if has_byte 42 bs then of_moves else
    no_decimal

-- of a piece that begins with this byte; the first that there is
abbrev pub fault_from : ℕ → List ℕ → Option PickFault
fault_from b bs =
    if not (all_are is_digit (b ∷ bs)) then Some (byte_fault (b ∷ bs)) else
    if (b == 48) && nat_lt 0 (length bs) then Some leading_zero else
    if fits_a_pick (b ∷ bs) then None else
    Some too_great

-- of any piece; none where it is a pick
abbrev pub pick_fault : List ℕ → Option PickFault
pick_fault [] = Some no_bytes
pick_fault (b ∷ bs) = fault_from b bs

-- the pieces between spaces, where the first of them begins with these bytes
abbrev pub pieces_from : List ℕ → List ℕ → List (List ℕ)
pieces_from front [] = front ∷ []
pieces_from front (b ∷ bs) = if b == 32 then front ∷ pieces_from [] bs else pieces_from (front ++ b ∷ []) bs

-- a piece that is no pick: its number, its bytes and why
pub record WrongPick : Type 0 where
  pub number : ℕ
  pub piece : List ℕ
  pub fault : PickFault

-- the piece with this number, where it is no pick
abbrev pub wrong_piece : ℕ → List ℕ → Option WrongPick
wrong_piece n p = option_map (λ f. record { number = n; piece = p; fault = f }) (pick_fault p)

-- the first of these pieces that is no pick, where the first of all has this number
abbrev pub first_wrong_piece : ℕ → List (List ℕ) → Option WrongPick
first_wrong_piece n [] = None
first_wrong_piece n (p ∷ ps) = option_or (wrong_piece n p) (first_wrong_piece (suc n) ps)

-- its number, its bytes and why it is none
abbrev pub wrong_pick_text : WrongPick → List ℕ
wrong_pick_text x = codes ": pick " ++ decimal x.number ++ codes ", '" ++ shown_text x.piece ++ codes "', " ++ pick_fault_text x.fault

-- nothing where there is none
abbrev pub wrong_picks_text : Option WrongPick → List ℕ
wrong_picks_text None = []
wrong_picks_text (Some x) = wrong_pick_text x

-- how long the text is, or its first piece that is no pick
abbrev pub picks_detail : List ℕ → List ℕ
picks_detail bytes =
    if nat_lt LENGTH (length bytes) then codes ": there are " ++ decimal (length bytes) ++ codes " bytes, of at most 1048576" else
    wrong_picks_text (first_wrong_piece 1 (pieces_from [] bytes))
