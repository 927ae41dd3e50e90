-- The tokens of the code, and those of the definition that they stand for.
use Rattle.std.specs.Prelude.{ℕ, ◌+◌, ◌-◌, ◌<◌, ◌≤◌, List, [], ◌∷◌, length, take, drop, Bool, false, ◌&&◌, codes, Option, Some, None}
use Rattle.def_text.specs.Tokens.{number, all_are, is_printable}
use Rattle.def_fun.specs.Operators as op
use Rattle.def_fun.specs.Operators.{FunOperator}
use Rattle.def_fun.specs.Tokens as token
use Rattle.def_fun.specs.Tokens.{FunToken, FunSpan}
use Rattle.def_fun.specs.Scan.{in_quotes_at, fun_span, spans_within}
use Rattle.tn_fun.specs.declared.operator.Operator.{Operator}
use Rattle.tn_fun.specs.declared.operator.Operator.TheVariants as operators
use Rattle.tn_fun.specs.declared.token.Kind.{Kind}
use Rattle.tn_fun.specs.declared.token.Kind.TheVariants as kinds
use Rattle.tn_fun.specs.declared.token.Token.{Token}

abbrev pub operator_seen : Operator → FunOperator
operator_seen operators.OrElse = op.or_else
operator_seen operators.AndAlso = op.and_also
operator_seen operators.Equal = op.equal
operator_seen operators.NotEqual = op.not_equal
operator_seen operators.LessOrEqual = op.less_or_equal
operator_seen operators.Less = op.less
operator_seen operators.GreaterOrEqual = op.greater_or_equal
operator_seen operators.Greater = op.greater
operator_seen operators.ExactlyEqual = op.exactly_equal
operator_seen operators.ExactlyNotEqual = op.exactly_not_equal
operator_seen operators.Plus = op.plus
operator_seen operators.Minus = op.minus
operator_seen operators.BitOr = op.bit_or
operator_seen operators.BitXor = op.bit_xor
operator_seen operators.OneOf = op.one_of
operator_seen operators.JustOneOf = op.just_one_of
operator_seen operators.Times = op.times
operator_seen operators.Divide = op.divide
operator_seen operators.Remainder = op.remainder
operator_seen operators.BitAnd = op.bit_and
operator_seen operators.AllOf = op.all_of
operator_seen operators.BitNot = op.bit_not
operator_seen operators.Negation = op.negation

-- the codes of a quoted text, of the bytes after its first quote
abbrev pub codes_of_quoted : Option (List ℕ × ℕ) → List ℕ
codes_of_quoted None = []
codes_of_quoted (Some r) = r.0

-- the codes of the quoted text at the front
abbrev pub quoted_codes : ℕ → List ℕ → List ℕ
quoted_codes q bytes = codes_of_quoted (in_quotes_at q false (drop 1 bytes))

-- the token of its own bytes u, and of all bytes from its first on
abbrev pub fun_token_seen : Kind → List ℕ → List ℕ → FunToken
fun_token_seen kinds.OpenParen u bytes = token.open_paren
fun_token_seen kinds.CloseParen u bytes = token.close_paren
fun_token_seen kinds.OpenBracket u bytes = token.open_bracket
fun_token_seen kinds.CloseBracket u bytes = token.close_bracket
fun_token_seen kinds.OpenBrace u bytes = token.open_brace
fun_token_seen kinds.CloseBrace u bytes = token.close_brace
fun_token_seen kinds.Comma u bytes = token.comma
fun_token_seen kinds.Semicolon u bytes = token.semicolon
fun_token_seen kinds.Bar u bytes = token.bar
fun_token_seen kinds.Arrow u bytes = token.arrow
fun_token_seen kinds.Match u bytes = token.match
fun_token_seen kinds.Fun u bytes = token.fun_word
fun_token_seen kinds.When u bytes = token.when_word
fun_token_seen kinds.End u bytes = token.end_word
fun_token_seen kinds.FullStop u bytes = token.full_stop
fun_token_seen (kinds.Operator o) u bytes = token.operator (operator_seen o)
fun_token_seen kinds.Digits u bytes = token.whole (number u)
fun_token_seen (kinds.Character c) u bytes = token.whole c
fun_token_seen kinds.Bare u bytes = token.atom u
fun_token_seen kinds.Quoted u bytes = token.atom (quoted_codes 39 bytes)
fun_token_seen kinds.Characters u bytes = token.characters (quoted_codes 34 bytes)
fun_token_seen kinds.Variable u bytes = token.variable u
fun_token_seen kinds.LeftOut u bytes = token.left_out u
fun_token_seen kinds.Float u bytes = token.left_out (codes "float")
fun_token_seen kinds.OtherNumber u bytes = token.left_out (codes "number")
fun_token_seen kinds.Bad u bytes = token.bad

-- the token at the front, and its length
abbrev pub front_seen : List ℕ → Option (Kind × ℕ) → Option (FunToken × ℕ)
front_seen bytes None = None
front_seen bytes (Some p) = Some (fun_token_seen p.0 (take p.1 bytes) bytes, p.1)

-- of a quoted text how many bytes it has, and whether its codes are from 32 to 126
abbrev pub quoted_size : Option (List ℕ × ℕ) → Option (ℕ × Bool)
quoted_size None = None
quoted_size (Some r) = Some (r.1, all_are is_printable r.0)

-- with so many bytes before it, whose codes are or aren't
abbrev pub after_bytes : ℕ → Bool → Option (ℕ × Bool) → Option (ℕ × Bool)
after_bytes n printable None = None
after_bytes n printable (Some r) = Some (n + r.0, printable && r.1)

-- the span of a token of a text
abbrev pub span_seen : List ℕ → Token → FunSpan
span_seen text v = fun_span (fun_token_seen v.kind (take (v.to - v.from) (drop v.from text)) (drop v.from text)) v.from v.to

-- the spans of a text from an offset on
abbrev pub spans_from : List ℕ → ℕ → List FunSpan
spans_from text at = spans_within (length text + 1) at (drop at text)

-- the next token, and the spans after it
abbrev pub next_spans : List ℕ → Option Token → List FunSpan
next_spans text None = []
next_spans text (Some v) = span_seen text v ∷ spans_from text v.to

-- the token is after that offset and within the text
pub record IsInText (text : List ℕ) (at : ℕ) (v : Token) : Type 0 where
  pub start : at ≤ v.from
  pub some : v.from < v.to
  pub fits : v.to ≤ length text
