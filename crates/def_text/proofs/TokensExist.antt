-- Every text has a list of tokens.
use Rattle.std.proofs.Common.{◌≡◌, ℕ, zero, suc, ◌+◌, ◌<◌, List, [], ◌∷◌, length, drop, false, Option, Some, None, refl, ap, sym, ◌∙◌, arith, append-nil, length-append, length-drop}
use Rattle.def_text.specs.Tokens.{bad, gap_len, TokenSpan, IsNextToken, TokensFrom, Tokens}
use Rattle.def_text.specs.Scan.{TokenKind, token_at}
use Rattle.def_text.proofs.TokenSound.{SoundAt, sound}
use Rattle.def_text.proofs.TokenComplete.{none_there}
use Rattle.def_text.proofs.TokenSteps.{nonempty, stands_of}

-- a next token after the blanks, with fewer bytes after it
abbrev HasNext : ℕ → List ℕ → List ℕ → Type 0
HasNext at bytes there = (u : List ℕ) × (rest : List ℕ) × (x : TokenSpan) × IsNextToken at bytes u rest x × (length rest < length there)

next_from : (at : ℕ) (bytes : List ℕ) (b : ℕ) (bs : List ℕ) (o : Option (TokenKind × ℕ)) → drop (gap_len false bytes) bytes ≡ b ∷ bs → token_at (b ∷ bs) ≡ o → SoundAt (b ∷ bs) o → HasNext at bytes (b ∷ bs)
next_from at bytes b bs None there is h =
    let from = at + gap_len false bytes in
    (b ∷ bs, [], record { token = bad; from = from; to = from + length (b ∷ bs) }, record { split = there ∙ sym (append-nil (b ∷ bs)); from = refl; to = refl; stands = (refl, omega arith, none_there (b ∷ bs) is) }, omega arith)
next_from at bytes b bs (Some p) there is c =
    let from = at + gap_len false bytes in
    let t = c.found.0 in
    let some = nonempty t c.token c.rest c.found.1 in
    let size = ap length c.split in (
      c.token,
      c.rest,
      record { token = t; from = from; to = from + length c.token },
      record { split = there ∙ c.split; from = refl; to = refl; stands = stands_of t c.token c.rest c.found.1 },
      omega (arith, some, size, length-append c.token c.rest),
    )

abbrev HasTokens : ℕ → List ℕ → Type 0
HasTokens at bytes = (xs : List TokenSpan) × TokensFrom at bytes xs

tokens_there : (at : ℕ) (bytes there : List ℕ) → drop (gap_len false bytes) bytes ≡ there → ((next : ℕ) (rest : List ℕ) → length rest < length there → HasTokens next rest) → HasTokens at bytes
tokens_there at bytes [] is go = ([], is)
tokens_there at bytes (b ∷ bs) is go =
    let n = next_from at bytes b bs (token_at (b ∷ bs)) is refl (sound (b ∷ bs)) in
    let later = go n.2.to n.1 n.4 in
    (n.2 ∷ later.0, (n.0, n.1, n.3, later.1))

-- by the number of bytes
tokens_within : (size at : ℕ) (bytes : List ℕ) → length bytes < size → HasTokens at bytes
tokens_within zero at bytes h = absurd (omega (arith, h))
tokens_within (suc size) at bytes h =
    let n = gap_len false bytes in
    tokens_there at bytes (drop n bytes) refl (λ next rest fewer. tokens_within size next rest (omega (arith, h, fewer, length-drop n bytes)))

pub tokens_exist : (bytes : List ℕ) → (xs : List TokenSpan) × Tokens bytes xs
tokens_exist bytes = tokens_within (length bytes + 1) 0 bytes (omega arith)
