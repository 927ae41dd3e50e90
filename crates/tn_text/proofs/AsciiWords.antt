-- The reserved words are text.
use Rattle.std.proofs.Common.{◌≡◌, ℕ, List, [], ◌∷◌, Bool, true, ◌&&◌, nat_lt, refl, sym, subst, inl, inr}
use Rattle.std.specs.Str.{IsUtf8, IsAscii}
use Rattle.std.specs.Cmp.Lexicographic.{bytes_decides}
use Rattle.std.proofs.lemmas.Str.{IsUtf8-from_ascii}
use Rattle.std.proofs.lemmas.Str.Ascii.{IsAscii-nil, IsAscii-cons}
use Rattle.std.proofs.lemmas.Bool.{or_cases, and_parts, ltb-true}
use Rattle.def_term.specs.Text.{is_among, reserved_words}
use Rattle.def_text.specs.Tokens.{all_are}

abbrev is_ascii_byte : ℕ → Bool
is_ascii_byte b = nat_lt b 128

abbrev pub all_ascii : List (List ℕ) → Bool
all_ascii [] = true
all_ascii (w ∷ ws) = all_are (λ b. nat_lt b 128) w && all_ascii ws

ascii_of : (bs : List ℕ) → all_are (λ b. nat_lt b 128) bs ≡ true → IsAscii bs
ascii_of [] h = IsAscii-nil
ascii_of (b ∷ bs) h = let parts = and_parts (nat_lt b 128) (all_are (λ x. nat_lt x 128) bs) h in IsAscii-cons b bs (ltb-true b 128 parts.0) (ascii_of bs parts.1)

among_utf8 : (ws : List (List ℕ)) → all_ascii ws ≡ true → (s : List ℕ) → is_among ws s ≡ true → IsUtf8 s
among_utf8 [] h s e = absurd (cc)
among_utf8 (w ∷ ws) h s e =
    let parts = and_parts (all_are (λ b. nat_lt b 128) w) (all_ascii ws) h in
    elim (or_cases _ (is_among ws s) e) [
      | inl same ↦ subst IsUtf8 (sym ((bytes_decides s w).0 same)) (IsUtf8-from_ascii w (ascii_of w parts.0))
      | inr more ↦ among_utf8 ws parts.1 s more
    ]

pub reserved_utf8 : (s : List ℕ) → is_among reserved_words s ≡ true → IsUtf8 s
reserved_utf8 s e = among_utf8 reserved_words refl s e
