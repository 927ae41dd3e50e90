-- A token has bytes, and stands where it is found.
use Rattle.std.proofs.Common.{ℕ, ◌<◌, List, [], ◌∷◌, length, ap, arith, inl, inr}
use Rattle.def_text.specs.Tokens as text
use Rattle.def_text.specs.Tokens.{open_brace, close_brace, open_bracket, close_bracket, comma, stop, integer, atom, characters, pid, bad, IsToken, Stands}

pub nonempty : (t : text.Token) (u rest : List ℕ) → IsToken u rest t → 0 < length u
nonempty open_brace u rest h = let e = ap length h in omega (arith, e)
nonempty close_brace u rest h = let e = ap length h in omega (arith, e)
nonempty open_bracket u rest h = let e = ap length h in omega (arith, e)
nonempty close_bracket u rest h = let e = ap length h in omega (arith, e)
nonempty comma u rest h = let e = ap length h in omega (arith, e)
nonempty stop u rest h = let e = ap length h.0 in omega (arith, e)
nonempty (integer n) u rest (over, inl h) = h.0.some
nonempty (integer n) u rest (over, inr h) = let e = ap length h.1 in omega (arith, e)
nonempty (atom []) u rest (inl h) = absurd (let n = h.name in cc)
nonempty (atom (b ∷ s)) u rest (inl h) = let e = ap length h.text in omega (arith, e)
nonempty (atom s) u rest (inr h) = let e = ap length h.text in omega (arith, e)
nonempty (characters s) u rest h = let e = ap length h.text in omega (arith, e)
nonempty (pid n) u rest (ds, h) = let e = ap length h.text in omega (arith, e)
nonempty bad u rest h = absurd h

pub stands_of : (t : text.Token) (u rest : List ℕ) → IsToken u rest t → Stands u rest t
stands_of bad u rest h = absurd h
stands_of t u rest h = h
