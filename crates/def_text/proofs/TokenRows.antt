-- Rows: bytes and the token that they are, and bytes that form none.
use Rattle.std.proofs.Common.{◌≡◌, pos, negsuc, [], ◌∷◌, false, codes, refl, arith, inl, inr}
use Rattle.def_text.specs.Tokens.{integer, atom, pid, stop, gap_len, IsDigits, IsToken, HasNoToken}
use Rattle.def_text.proofs.TokenComplete.{none_there}

-- `-0` is 0
pub minus_zero : IsToken (codes "-0") (codes "}") (integer (pos 0))
minus_zero = let ds : IsDigits (codes "0") = record { some = omega arith; all = refl } in (refl, inr (codes "0", refl, ds, refl))

-- leading zeros are allowed
pub leading_zeros : IsToken (codes "-007") [] (integer (negsuc 6))
leading_zeros = let ds : IsDigits (codes "007") = record { some = omega arith; all = refl } in (refl, inr (codes "007", refl, ds, refl))

-- a bare `maybe` is read as an atom
pub maybe_is_bare : IsToken (codes "maybe") (codes ".") (atom (codes "maybe"))
maybe_is_bare = inl (record { text = refl; name = refl; whole = refl; free = refl })

-- `'it\'s'`
pub quote_in_atom : IsToken (39 ∷ 105 ∷ 116 ∷ 92 ∷ 39 ∷ 115 ∷ 39 ∷ []) [] (atom (105 ∷ 116 ∷ 39 ∷ 115 ∷ []))
quote_in_atom = inr (record { text = refl; printable = refl })

-- a double quote needs no backslash in a quoted atom
pub other_quote_in_atom : IsToken (39 ∷ 34 ∷ 39 ∷ []) [] (atom (34 ∷ []))
other_quote_in_atom = inr (record { text = refl; printable = refl })

-- a quoted atom may be empty
pub empty_atom : IsToken (39 ∷ 39 ∷ []) [] (atom [])
empty_atom = inr (record { text = refl; printable = refl })

pub first_pid : IsToken (codes "<0.0.0>") [] (pid 0)
first_pid = let ds : IsDigits (codes "0") = record { some = omega arith; all = refl } in (codes "0", record { text = refl; digits = ds; plain = refl; value = refl })

-- a full stop has a blank, `%` or the end of the text after it
pub stop_before_comment : IsToken (codes ".") (codes "% a") stop
stop_before_comment = (refl, refl)

-- a comment ends at a line feed
pub comment_and_blanks : gap_len false (32 ∷ 37 ∷ 97 ∷ 10 ∷ 9 ∷ 97 ∷ []) ≡ 5
comment_and_blanks = refl

pub capital : HasNoToken (codes "X.")
capital = none_there (codes "X.") refl

pub point : HasNoToken (codes ".5.")
point = none_there (codes ".5.") refl

pub zeros_in_pid : HasNoToken (codes "<0.007.0>")
zeros_in_pid = none_there (codes "<0.007.0>") refl

pub reserved : HasNoToken (codes "receive")
reserved = none_there (codes "receive") refl

-- a string without its closing quote
pub open_string : HasNoToken (34 ∷ 97 ∷ [])
open_string = none_there (34 ∷ 97 ∷ []) refl

-- an escape that isn't allowed
pub other_escape : HasNoToken (34 ∷ 92 ∷ 110 ∷ 34 ∷ [])
other_escape = none_there (34 ∷ 92 ∷ 110 ∷ 34 ∷ []) refl
