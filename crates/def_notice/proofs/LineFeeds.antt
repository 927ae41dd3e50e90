-- Texts of numbers have no line feeds.
use Rattle.std.proofs.Common.{◌≡◌, ◌+◌, ◌/◌, ◌%◌, ◌==◌, ℕ, zero, suc, Bool, true, false, List, [], ◌∷◌, decimal, refl, ap, ◌∙◌, arith, if◌then◌else◌}
use Rattle.std.specs.Fmt.{digits, digits_onto, digit_glyph}
use Rattle.def_text.specs.Places.{line_feeds}

-- ---- numbers

-- one of two texts, which have as many
either_text : (b : Bool) (xs ys : List ℕ) (n : ℕ) → line_feeds xs ≡ n → line_feeds ys ≡ n → line_feeds (if b then xs else ys) ≡ n
either_text true xs ys n one other = one
either_text false xs ys n one other = other

glyph_is_none : (d : ℕ) → (digit_glyph false d == 10) ≡ false
glyph_is_none d = grind arith

past_byte_of : (b : ℕ) (bs : List ℕ) → (b == 10) ≡ false → line_feeds (b ∷ bs) ≡ line_feeds bs
past_byte_of b bs e = ap (λ t. if t then line_feeds bs + 1 else line_feeds bs) e

digits_have_none : (k n : ℕ) (acc : List ℕ) → line_feeds (digits_onto k 10 false n acc) ≡ line_feeds acc
digits_have_none zero n acc = refl
digits_have_none (suc k) n acc =
    let d = digit_glyph false (n % 10) in
    let one = past_byte_of d acc (glyph_is_none (n % 10)) in
    either_text (n / 10 == 0) (d ∷ acc) (digits_onto k 10 false (n / 10) (d ∷ acc)) (line_feeds acc) one (digits_have_none k (n / 10) (d ∷ acc) ∙ one)

pub decimal_has_none : (n : ℕ) → line_feeds (decimal n) ≡ 0
unfolding digits
decimal_has_none n = digits_have_none 64 n []
