-- A text that writes a number is a text of that one pick.
use Rattle.std.proofs.Common.{◌≡◌, ◌<◌, ◌≤◌, ◌^◌, ℕ, zero, suc, List, [], ◌∷◌, length, All, Option, Some, None, sym, ap, subst, decimal, arith}
use Rattle.std.proofs.lemmas.Fmt.{length-decimal-le}
use Rattle.std.proofs.lemmas.List.Elements.{All-head}
use Rattle.def_run.specs.Picks.{SpellsPicks}
use Rattle.tn_moves.specs.Readings.{IsNumberRead, IsOnly}

one_fits : (n : ℕ) → n < 4294967296 → All (λ p. p < 2 ^ 32) (n ∷ [])
one_fits n small zero d h = small
one_fits n small (suc k) d h = absurd (omega arith)

-- the list of one pick
one_pick : (text : List ℕ) (n : ℕ) → n < 4294967296 → text ≡ decimal n → SpellsPicks text (n ∷ [])
one_pick text n small is =
    let short : length (decimal n) ≤ 10 = length-decimal-le 10 n (omega arith) (omega arith) (omega arith) in
    let counted : length text ≡ length (decimal n) = ap length is in
    record { short = omega arith; fit = one_fits n small; spelled = is }

-- the only pick of the text is the number
pub number_read : (text picks : List ℕ) (r : Option ℕ) → SpellsPicks text picks → ((others : List ℕ) → SpellsPicks text others → others ≡ picks) → IsOnly picks r → IsNumberRead text r
number_read text picks None spells alone none = λ n small is. none n (sym (alone (n ∷ []) (one_pick text n small is)))
number_read text picks (Some n) spells alone only =
    let one : SpellsPicks text (n ∷ []) = subst (SpellsPicks text) only spells in
    (one.spelled, All-head (λ p. p < 2 ^ 32) n [] one.fit)

-- a text of no picks writes no number
pub no_number : (text : List ℕ) → ((picks : List ℕ) → SpellsPicks text picks → ⊥) → IsNumberRead text None
no_number text none = λ n small is. none (n ∷ []) (one_pick text n small is)
