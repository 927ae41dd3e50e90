-- A text that has no list of tokens.
use Rattle.std.proofs.Common.{◌≢◌, ℕ, ◌<◌, List, [], ◌∷◌, ◌++◌, length, subst, arith}
use Rattle.def_text.specs.Tokens.{bad, TokenSpan}
use Rattle.def_text.specs.Spelling.{LENGTH}
use Rattle.def_text.proofs.Unique.{same_tokens}
use Rattle.tn_text.specs.Lexer.{AllGood}
use Rattle.tn_text.specs.Answers.{NoTokenAt}
use Rattle.tn_refusal.specs.Starts.{IsListable}

-- the last of good tokens is good
good-last : (xs : List TokenSpan) (x : TokenSpan) → AllGood (xs ++ x ∷ []) → x.token ≢ bad
good-last [] x g = g.0
good-last (y ∷ xs) x g = good-last xs x g.1

pub no_token : (bytes : List ℕ) (at : ℕ) → NoTokenAt bytes at → IsListable bytes → ⊥
no_token bytes at b l =
    let same = same_tokens 0 bytes l.tokens (b.front ++ b.last ∷ []) l.are b.are in
    good-last b.front b.last (subst AllGood same l.good) b.bad

pub too_long : (bytes : List ℕ) → LENGTH < length bytes → IsListable bytes → ⊥
too_long bytes long l = let short = l.short in omega arith
