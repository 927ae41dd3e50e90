-- How many picks a line has.
use Rattle.std.proofs.Common.{◌≡◌, ◌∙◌, ℕ, ◌+◌, ◌<◌, ◌==◌, List, [], ◌∷◌, length, sym, ap, arith}
use Rattle.std.specs.List.{count_by}
use Rattle.std.proofs.lemmas.List.Splits.{length-slice_split}
use Rattle.def_formats.specs.Summaries.{picks_in}

-- one more than it has spaces
pub one_more_than_spaces : (line : List ℕ) (n : ℕ) → 0 < length line → n ≡ count_by (λ b. b == 32) line → n + 1 ≡ length (picks_in line)
one_more_than_spaces [] n some is = absurd (omega (arith, some))
one_more_than_spaces (c ∷ cs) n some is = ap (λ k. k + 1) is ∙ sym (length-slice_split (λ b. b == 32) (c ∷ cs))
