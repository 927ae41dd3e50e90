-- What a text answers: the specification of its fun, or its refusal (own).
-- Depends on tokens, reading and translation.
use Rattle.std.specs.Prelude.{ℕ, nat_le, List, [], ◌∷◌, length, if◌then◌else◌, true, Result, Ok, Err, codes}
use Rattle.def_term.specs.Tree.{Tree}
use Rattle.def_term.specs.Text.{w}
use Rattle.def_text.specs.Faults.{FaultKind, misplaced, too_deep, too_large}
use Rattle.def_text.specs.Spelling.{LENGTH}
use Rattle.def_spec.specs.Expressions.{Dialect}
use Rattle.def_fun.specs.Tokens as token
use Rattle.def_fun.specs.Tokens.{FunToken, FunSpan}
use Rattle.def_fun.specs.Scan.{fun_spans}
use Rattle.def_fun.specs.Trees.{FunClause}
use Rattle.def_fun.specs.Limits.{FUN_DEPTH}
use Rattle.def_fun.specs.Reading.{FunFault, read_fun}
use Rattle.def_fun.specs.Refusals.{FunRefusal, too_long, misplaced_token, no_such, too_deep_at, too_large_at, OrRefusal, then_fun, fun_refusal_line}
use Rattle.def_fun.specs.Translation.{tree_of_fun}

-- a token with which the text begins no fun: one that is left out is named, and so are `fun` and `=`
abbrev pub token_refusal : FunToken → ℕ → FunRefusal
token_refusal (token.left_out s) at = no_such s at
token_refusal token.fun_word at = no_such (codes "fun") at
token_refusal token.match at = no_such (codes "=") at
token_refusal t at = misplaced_token at

-- a refusal of reading, at the first of these tokens, or at the text's end
abbrev pub reading_refusal : ℕ → FaultKind → List FunSpan → FunRefusal
reading_refusal end misplaced [] = misplaced_token end
reading_refusal end too_deep [] = too_deep_at end
reading_refusal end too_large [] = too_large_at end
reading_refusal end misplaced (x ∷ xs) = token_refusal x.token x.from
reading_refusal end too_deep (x ∷ xs) = too_deep_at x.from
reading_refusal end too_large (x ∷ xs) = too_large_at x.from

-- what is read
abbrev pub read_or_refusal : ℕ → Result (List FunClause) FunFault → OrRefusal (List FunClause)
read_or_refusal end (Ok ks) = Ok ks
read_or_refusal end (Err r) = Err (reading_refusal end r.0 r.1)

-- the fun of a text
abbrev pub fun_of_text : List ℕ → OrRefusal (List FunClause)
fun_of_text bytes = if nat_le (length bytes) LENGTH then read_or_refusal (length bytes) (read_fun FUN_DEPTH true (fun_spans bytes)) else Err too_long

-- the specification of a text, for a dialect
abbrev pub spec_of_text : Dialect → List ℕ → OrRefusal Tree
spec_of_text d bytes = then_fun (fun_of_text bytes) (λ ks. tree_of_fun d ks)

-- the line on standard output, without its line feed
abbrev pub answer_line : OrRefusal Tree → List ℕ
answer_line (Ok t) = w t
answer_line (Err r) = fun_refusal_line r

-- what `fun` prints
abbrev pub fun_answer : Dialect → List ℕ → List ℕ
fun_answer d bytes = answer_line (spec_of_text d bytes)
