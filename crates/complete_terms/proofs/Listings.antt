-- A text has one list of tokens, whose kinds its bytes determine, or one first place where no token stands.
use Rattle.std.proofs.Common.{◌≡◌, ◌==◌, ◌-◌, ℕ, List, [], ◌∷◌, ◌++◌, Bool, true, false, if◌then◌else◌, take, drop, length, ◌≤◌, Result, Ok, Err, refl, sym, ap, ◌∙◌, subst, arith}
use Rattle.std.specs.declared.vec.Vec.{Vec}
use Rattle.std.proofs.lemmas.Bool.Decides.{nat_tests}
use Rattle.def_term.specs.Text.{is_name}
use Rattle.def_text.specs.Tokens.{open_brace, close_brace, open_bracket, close_bracket, comma, stop, integer, atom, characters, pid, bad, TokenSpan, Tokens}
use Rattle.def_text.specs.Tokens as text
use Rattle.def_text.specs.Scan.{IsTokenOf, TokenKind, left_brace, right_brace, left_bracket, right_bracket, separator, full_stop, numeral, bare_atom, quoted_atom, string, process_identifier}
use Rattle.def_text.specs.Faults as faults
use Rattle.def_text.specs.Spelling.{LENGTH}
use Rattle.def_text.proofs.Unique.{same_tokens}
use Rattle.tn_text.specs.declared.scan.Kind.{Kind}
use Rattle.tn_text.specs.declared.scan.Kind.TheVariants.{OpenBrace, CloseBrace, OpenBracket, CloseBracket, Comma, Stop, Integer, Bare, Quoted, Characters, Pid}
use Rattle.tn_text.specs.declared.lexer.Token.{Token}
use Rattle.tn_text.specs.declared.fault.TextFault.{TextFault}
use Rattle.tn_text.specs.declared.fault.TextFault.TheVariants.{TooLong, Token as NoToken, TooDeep, TooLarge, OutOfMemory}
use Rattle.tn_text.specs.Answers.{AreTokens, NoTokenAt, IsTokenList}
use Rattle.tn_text.specs.Kinds.{kind_of}
use Rattle.tn_text.specs.Lexer.{ShowsToken, AllShown, AllGood}
use Rattle.complete_terms.specs.Answers.{AreAlike}
use Rattle.complete_terms.proofs.Readings.{IsDetermined, IsAnswerBy, answers_alike}

-- ---- the kind of a token

abbrev begins_quoted : List ℕ → Bool
begins_quoted [] = false
begins_quoted (c ∷ cs) = c == 39

-- by the token and its bytes
abbrev kind_by : text.Token → List ℕ → TokenKind
kind_by open_brace u = left_brace
kind_by close_brace u = right_brace
kind_by open_bracket u = left_bracket
kind_by close_bracket u = right_bracket
kind_by comma u = separator
kind_by stop u = full_stop
kind_by (integer n) u = numeral
kind_by (atom s) u = if begins_quoted u then quoted_atom else bare_atom
kind_by (characters s) u = string
kind_by (pid n) u = process_identifier
kind_by bad u = left_brace

name_isnt_quoted : (s : List ℕ) → is_name s ≡ true → begins_quoted s ≡ false
name_isnt_quoted [] h = refl
name_isnt_quoted (c ∷ cs) h = grind (arith, nat_tests)

is_by : (k : TokenKind) (u rest : List ℕ) (t : text.Token) → IsTokenOf k u rest t → k ≡ kind_by t u
is_by left_brace u rest t p = ap (λ t. kind_by t u) (sym p)
is_by right_brace u rest t p = ap (λ t. kind_by t u) (sym p)
is_by left_bracket u rest t p = ap (λ t. kind_by t u) (sym p)
is_by right_bracket u rest t p = ap (λ t. kind_by t u) (sym p)
is_by separator u rest t p = ap (λ t. kind_by t u) (sym p)
is_by full_stop u rest t p = ap (λ t. kind_by t u) (sym p)
is_by numeral u rest t p = ap (λ t. kind_by t u) (sym p.1)
is_by bare_atom u rest t p = sym (ap (λ t. kind_by t u) p.1 ∙ ap (λ b. if b then quoted_atom else bare_atom) (ap begins_quoted p.2.text ∙ name_isnt_quoted p.0 p.2.name))
is_by quoted_atom u rest t p = sym (ap (λ t. kind_by t u) p.1 ∙ ap (λ b. if b then quoted_atom else bare_atom) (ap begins_quoted p.2.text))
is_by string u rest t p = ap (λ t. kind_by t u) (sym p.1)
is_by process_identifier u rest t p = ap (λ t. kind_by t u) (sym p.1)

-- ---- the kinds of the code

abbrev code_kind : TokenKind → Kind
code_kind left_brace = OpenBrace
code_kind right_brace = CloseBrace
code_kind left_bracket = OpenBracket
code_kind right_bracket = CloseBracket
code_kind separator = Comma
code_kind full_stop = Stop
code_kind numeral = Integer
code_kind bare_atom = Bare
code_kind quoted_atom = Quoted
code_kind string = Characters
code_kind process_identifier = Pid

code_kind_is : (k : Kind) → code_kind (kind_of k) ≡ k
code_kind_is OpenBrace = refl
code_kind_is CloseBrace = refl
code_kind_is OpenBracket = refl
code_kind_is CloseBracket = refl
code_kind_is Comma = refl
code_kind_is Stop = refl
code_kind_is Integer = refl
code_kind_is Bare = refl
code_kind_is Quoted = refl
code_kind_is Characters = refl
code_kind_is Pid = refl

same_kind : (k j : Kind) → kind_of k ≡ kind_of j → k ≡ j
same_kind k j e = sym (code_kind_is k) ∙ ap code_kind e ∙ code_kind_is j

-- ---- tokens

-- the bytes from one offset up to another
abbrev span : List ℕ → ℕ → ℕ → List ℕ
span bytes from to = take (to - from) (drop from bytes)

shown_by : (bytes : List ℕ) (v : Token) (x : TokenSpan) → ShowsToken bytes v x → kind_of v.kind ≡ kind_by x.token (span bytes x.from x.to)
shown_by bytes v x s =
    is_by (kind_of v.kind) (span bytes v.from v.to) (drop v.to bytes) x.token s.kind ∙ ap (λ n. kind_by x.token (span bytes n v.to)) s.from ∙ ap (λ n. kind_by x.token (span bytes x.from n)) s.to

same_parts : (k j : Kind) (a b c d : ℕ) → k ≡ j → a ≡ b → c ≡ d →
    let one : Token = record { kind = k; from = a; to = c } in let other : Token = record { kind = j; from = b; to = d } in one ≡ other
same_parts k j a b c d e f g = cc

same_token : (bytes : List ℕ) (v w : Token) (x : TokenSpan) → ShowsToken bytes v x → ShowsToken bytes w x → v ≡ w
same_token bytes v w x s t =
    same_parts v.kind w.kind v.from w.from v.to w.to (same_kind v.kind w.kind (shown_by bytes v x s ∙ sym (shown_by bytes w x t))) (s.from ∙ sym t.from) (s.to ∙ sym t.to)

all_shown_alike : (bytes : List ℕ) (vs ws : List Token) (xs : List TokenSpan) → AllShown bytes vs xs → AllShown bytes ws xs → vs ≡ ws
all_shown_alike bytes [] [] [] p q = refl
all_shown_alike bytes [] (w ∷ ws) [] p q = absurd q
all_shown_alike bytes (v ∷ vs) ws [] p q = absurd p
all_shown_alike bytes [] ws (x ∷ xs) p q = absurd p
all_shown_alike bytes (v ∷ vs) [] (x ∷ xs) p q = absurd q
all_shown_alike bytes (v ∷ vs) (w ∷ ws) (x ∷ xs) p q =
    let e = same_token bytes v w x p.0 q.0 in let f = all_shown_alike bytes vs ws xs p.1 q.1 in cc

-- ---- listings

-- the first place where no token stands, if the kind is that
abbrev refused_at : List ℕ → faults.FaultKind → ℕ → Type 0
refused_at bytes faults.misplaced at = NoTokenAt bytes at
refused_at bytes faults.too_deep at = ⊥
refused_at bytes faults.too_large at = ⊥

nil_isnt_snoc : (xs : List TokenSpan) (x : TokenSpan) → [] ≡ xs ++ x ∷ [] → ⊥
nil_isnt_snoc [] x e = cc
nil_isnt_snoc (y ∷ ys) x e = cc

last_of : (xs ys : List TokenSpan) (x y : TokenSpan) → xs ++ x ∷ [] ≡ ys ++ y ∷ [] → x ≡ y
last_of [] [] x y e = cc
last_of [] (y' ∷ ys) x y e = let f : [] ≡ ys ++ y ∷ [] = cc in absurd (nil_isnt_snoc ys y f)
last_of (x' ∷ xs) [] x y e = let f : xs ++ x ∷ [] ≡ [] = cc in absurd (nil_isnt_snoc xs x (sym f))
last_of (x' ∷ xs) (y' ∷ ys) x y e = last_of xs ys x y (cc)

good_last : (xs : List TokenSpan) (x : TokenSpan) → AllGood (xs ++ x ∷ []) → x.token ≡ bad → ⊥
good_last [] x g e = g.0 e
good_last (y ∷ ys) x g e = good_last ys x g.1 e

one_listing : (bytes : List ℕ) (vs ws : List Token) → AreTokens bytes vs → AreTokens bytes ws → vs ≡ ws
one_listing bytes vs ws p q =
    let e = same_tokens 0 bytes q.tokens p.tokens q.are p.are in
    all_shown_alike bytes vs ws p.tokens p.shown (subst (λ xs. AllShown bytes ws xs) e q.shown)

listed_isnt_refused : (bytes : List ℕ) (vs : List Token) (kind : faults.FaultKind) (at : ℕ) → AreTokens bytes vs → refused_at bytes kind at → ⊥
listed_isnt_refused bytes vs faults.misplaced at p q =
    let e = same_tokens 0 bytes p.tokens (q.front ++ q.last ∷ []) p.are q.are in good_last q.front q.last (subst AllGood e p.good) q.bad
listed_isnt_refused bytes vs faults.too_deep at p q = q
listed_isnt_refused bytes vs faults.too_large at p q = q

one_place : (bytes : List ℕ) (kind other : faults.FaultKind) (at there : ℕ) → refused_at bytes kind at → refused_at bytes other there → (kind ≡ other) × (at ≡ there)
one_place bytes faults.misplaced faults.misplaced at there p q =
    let e = same_tokens 0 bytes (p.front ++ p.last ∷ []) (q.front ++ q.last ∷ []) p.are q.are in
    (refl, sym p.place ∙ ap (λ x. x.from) (last_of p.front q.front p.last q.last e) ∙ q.place)
one_place bytes faults.misplaced faults.too_deep at there p q = absurd q
one_place bytes faults.misplaced faults.too_large at there p q = absurd q
one_place bytes faults.too_deep other at there p q = absurd p
one_place bytes faults.too_large other at there p q = absurd p

place_is_short : (bytes : List ℕ) (kind : faults.FaultKind) (at : ℕ) → refused_at bytes kind at → length bytes ≤ LENGTH
place_is_short bytes faults.misplaced at p = p.short
place_is_short bytes faults.too_deep at p = absurd p
place_is_short bytes faults.too_large at p = absurd p

determined : (bytes : List ℕ) → IsDetermined bytes (AreTokens bytes) (refused_at bytes)
determined bytes = record {
  one = one_listing bytes;
  refused = listed_isnt_refused bytes;
  once = one_place bytes;
  short = λ vs p. p.short;
  short_too = place_is_short bytes;
}

answer_by : {A : Type 0} (bytes : List ℕ) (r : Result (Vec Token A) TextFault) → IsTokenList bytes r → IsAnswerBy bytes (λ v. v.items) (AreTokens bytes) (refused_at bytes) r
answer_by bytes (Ok v) p = p
answer_by bytes (Err TooLong) p = p
answer_by bytes (Err (NoToken at)) p = p
answer_by bytes (Err (TooDeep at)) p = p
answer_by bytes (Err (TooLarge at)) p = p
answer_by bytes (Err OutOfMemory) p = p

pub listed_alike : {A : Type 0} (bytes : List ℕ) (r s : Result (Vec Token A) TextFault) → IsTokenList bytes r → IsTokenList bytes s → AreAlike (λ v. v.items) r s
listed_alike bytes r s p q =
    answers_alike bytes (λ v. v.items) (AreTokens bytes) (refused_at bytes) (determined bytes) r s (answer_by bytes r p) (answer_by bytes s q)
