-- The formats in which `dbg` prints trace messages ("tracer/0" of the module `dbg` of OTP 27's runtime_tools: `dhandler1/3`, `ffunc/2` and `ftup/4`), and the parts of a line of such a format.
-- Depends on written terms.
use Rattle.std.specs.Prelude.{ℕ, ◌+◌, ◌-◌, ◌==◌, Bool, false, not, ◌&&◌, ◌||◌, List, [], ◌∷◌, ◌++◌, length, take, drop, slice_index, flat_map, Option, Some, None, if◌then◌else◌, codes}
use Rattle.std.specs.Option.{is_none}
use Rattle.def_term.specs.Tree.{Trees}
use Rattle.def_term.specs.Text.{is_digit, comma_list}

-- ---- parts of a line

-- the quote of an atom, or of a string
abbrev pub is_quote : ℕ → Bool
is_quote b = (b == 39) || (b == 34)

-- the quote whose end is to come after this byte; a byte after a backslash ends nothing
abbrev pub quote_after : Option ℕ → Bool → ℕ → Option ℕ
quote_after None escaped b = if is_quote b then Some b else None
quote_after (Some q) escaped b = if not escaped && (b == q) then None else Some q

-- the byte is a backslash between quotes, and the next one is after it
abbrev pub escapes_next : Option ℕ → Bool → ℕ → Bool
escapes_next quote escaped b = not (is_none quote) && (not escaped && (b == 92))

-- a tuple or a list begins with the byte, which is not between quotes
abbrev pub opens_term : Option ℕ → ℕ → Bool
opens_term quote b = is_none quote && ((b == 123) || (b == 91))

-- a tuple or a list ends with it
abbrev pub closes_term : Option ℕ → ℕ → Bool
closes_term quote b = is_none quote && ((b == 125) || (b == 93))

-- how many tuples and lists are open after the byte
abbrev pub nesting_after : Option ℕ → ℕ → ℕ → ℕ
nesting_after quote depth b = if opens_term quote b then depth + 1 else (if closes_term quote b then depth - 1 else depth)

-- how many bytes come before the first byte of this kind that is neither between quotes nor in a tuple or list; all of them, where there is none
abbrev pub part_length : ℕ → Option ℕ → Bool → ℕ → List ℕ → ℕ
part_length end quote escaped depth [] = 0
part_length end quote escaped depth (b ∷ bs) =
    if is_none quote && ((depth == 0) && (b == end)) then 0
    else part_length end (quote_after quote escaped b) (escapes_next quote escaped b) (nesting_after quote depth b) bs + 1

-- ---- formats

-- the first byte is this one
abbrev pub begins_with_byte : ℕ → List ℕ → Bool
begins_with_byte c [] = false
begins_with_byte c (b ∷ bs) = b == c

-- how many bytes of the line a byte of a format stands for, before the others of the format: one, or where it is a digit a part up to the next byte of the format
abbrev pub span_length : ℕ → List ℕ → List ℕ → ℕ
span_length c others line = if is_digit c then part_length (slice_index others 0) None false 0 line else 1

-- the line has this format: each byte, and a part for each digit
abbrev pub has_format : List ℕ → List ℕ → Bool
has_format [] line = length line == 0
has_format (c ∷ others) line = (is_digit c || begins_with_byte c line) && has_format others (drop (span_length c others line) line)

-- the part of the line in the place of this digit of its format
abbrev pub part_of_line : ℕ → List ℕ → List ℕ → List ℕ
part_of_line digit [] line = []
part_of_line digit (c ∷ others) line =
    let n = span_length c others line in
    if c == digit then take n line else part_of_line digit others (drop n line)

-- a format, with the parts of a line that has another format in the places of their digits
abbrev pub with_parts : (text printed line : List ℕ) → List ℕ
with_parts text printed line = flat_map (λ b. if is_digit b then part_of_line b printed line else b ∷ []) text

-- what `dbg` prints, and the text of the message; a digit is the same part in both
pub record DbgFormat : Type 0 where
  pub printed : List ℕ
  pub message : List ℕ

-- the formats with a word or a sign of `dbg`'s own after the pid, with `ffunc/2` written out. It prints no message of a match specification with a receive or a send
abbrev pub word_formats : List DbgFormat
word_formats =
    record { printed = codes "(1) << 2"; message = codes "{trace,1,'receive',2}" }
    ∷ record { printed = codes "(1) call 2:3/4 (5)"; message = codes "{trace,1,call,{2,3,4},5}" }
    ∷ record { printed = codes "(1) call 2:3/4"; message = codes "{trace,1,call,{2,3,4}}" }
    ∷ record { printed = codes "(1) call 2:3(4) (5)"; message = codes "{trace,1,call,{2,3,[4]},5}" }
    ∷ record { printed = codes "(1) call 2:3(4)"; message = codes "{trace,1,call,{2,3,[4]}}" }
    ∷ record { printed = codes "(1) returned from 2:3/4 -> 5"; message = codes "{trace,1,return_from,{2,3,4},5}" }
    ∷ record { printed = codes "(1) returning to 2:3/4"; message = codes "{trace,1,return_to,{2,3,4}}" }
    ∷ record { printed = codes "(1) spawn 2 as 3:4(5)"; message = codes "{trace,1,spawn,2,{3,4,[5]}}" }
    ∷ []

-- the format of a send; the receiver is first
abbrev pub send_format : DbgFormat
send_format = record { printed = codes "(1) 2 ! 3"; message = codes "{trace,1,send,3,2}" }

-- the formats of all other kinds, with `ftup/4` written out: the kind, and two terms or one
abbrev pub pair_format : DbgFormat
pair_format = record { printed = codes "(1) 2 3 4"; message = codes "{trace,1,2,3,4}" }

abbrev pub single_format : DbgFormat
single_format = record { printed = codes "(1) 2 3"; message = codes "{trace,1,2,3}" }

-- the formats of `dbg`; a line has the first one that it fits
abbrev pub dbg_formats : List DbgFormat
dbg_formats = word_formats ++ send_format ∷ pair_format ∷ single_format ∷ []

-- the other kinds of trace messages that a session sends
abbrev pub other_kinds : List (List ℕ)
other_kinds =
    codes "exception_from" ∷ codes "send_to_non_existing_process" ∷ codes "spawned" ∷ codes "exit" ∷ codes "link" ∷ codes "unlink"
    ∷ codes "getting_linked" ∷ codes "getting_unlinked" ∷ []

-- the first of these formats that the line has
abbrev pub first_format : List DbgFormat → List ℕ → Option DbgFormat
first_format [] line = None
first_format (f ∷ fs) line = if has_format f.printed line then Some f else first_format fs line

-- the text of the message by the line's format; the line itself, where it has none
abbrev pub text_by_format : Option DbgFormat → List ℕ → List ℕ
text_by_format None line = line
text_by_format (Some f) line = with_parts f.message f.printed line

-- a format, with the written terms in the places of their digits, a comma between any two of one place
abbrev pub with_term_texts : List ℕ → (ℕ → Trees) → List ℕ
with_term_texts text terms = flat_map (λ b. if is_digit b then comma_list (terms b) else b ∷ []) text
