-- Terms derive from tokens, none of which is bytes that form no token; so a text refused for a form is all tokens.
use Rattle.std.proofs.Common.{◌≡◌, ◌≢◌, ℕ, Bool, true, false, ◌&&◌, List, [], ◌∷◌, ◌++◌, inl, inr, refl, ap, sym, ◌∙◌}
use Rattle.def_term.specs.Tree.{Tree, int, atom, pid, tuple, list, Trees, none, more}
use Rattle.def_text.specs.Tokens as text
use Rattle.def_text.specs.Tokens.{Token, TokenSpan}
use Rattle.def_text.specs.Grammar.{Derives, DerivesAll, DerivesRest, DerivesScript}
use Rattle.def_text.specs.Spelling.{tokens_of}
use Rattle.def_text.specs.Scripts.{SpellsTerms}
use Rattle.def_script.specs.Script as script
use Rattle.tn_text.specs.Lexer.{AllGood}
use Rattle.tn_refusal.specs.Starts.{IsListable}
use Rattle.tn_refusal.specs.Laws.{RefusedTextIsPlaced}

-- a token, and not bytes that form none
abbrev pub is_good : Token → Bool
is_good text.bad = false
is_good t = true

abbrev pub are_good : List Token → Bool
are_good [] = true
are_good (t ∷ ts) = is_good t && are_good ts

and-both : (p q r s : Bool) → q ≡ (r && s) → (p && q) ≡ ((p && r) && s)
and-both true q r s e = e
and-both false q r s e = refl

are_good-append : (xs ys : List Token) → are_good (xs ++ ys) ≡ (are_good xs && are_good ys)
are_good-append [] ys = refl
are_good-append (x ∷ xs) ys = and-both (is_good x) (are_good (xs ++ ys)) (are_good xs) (are_good ys) (are_good-append xs ys)

two-good : (p q : Bool) → p ≡ true → q ≡ true → (p && q) ≡ true
two-good p q e f = ap (λ b. b && q) e ∙ f

pair-good : (xs ys : List Token) → are_good xs ≡ true → are_good ys ≡ true → are_good (xs ++ ys) ≡ true
pair-good xs ys e f = are_good-append xs ys ∙ two-good (are_good xs) (are_good ys) e f

mutual
  derives-good : (ts : List Token) (u : Tree) → Derives ts u → are_good ts ≡ true
  derives-good ts (int n) h = ap are_good h
  derives-good ts (atom s) h = ap are_good h
  derives-good ts (pid n) h = ap are_good h
  derives-good ts (tuple us) h = ap are_good h.1 ∙ all-good text.close_brace h.0 us refl h.2
  derives-good ts (list us) (inl h) = ap are_good h.1 ∙ all-good text.close_bracket h.0 us refl h.2
  derives-good ts (list us) (inr h) = ap are_good h.1

  all-good : (close : Token) (ts : List Token) (us : Trees) → is_good close ≡ true → DerivesAll close ts us → are_good ts ≡ true
  all-good close ts none g h = ap are_good h ∙ two-good (is_good close) true g refl
  all-good close ts (more u us) g h = ap are_good h.2 ∙ pair-good h.0 h.1 (derives-good h.0 u h.3) (rest-good close h.1 us g h.4)

  rest-good : (close : Token) (ts : List Token) (us : Trees) → is_good close ≡ true → DerivesRest close ts us → are_good ts ≡ true
  rest-good close ts none g h = ap are_good h ∙ two-good (is_good close) true g refl
  rest-good close ts (more u us) g h = ap are_good h.2 ∙ pair-good h.0 h.1 (derives-good h.0 u h.3) (rest-good close h.1 us g h.4)

script-good : (ts : List Token) (us : List Tree) → DerivesScript ts us → are_good ts ≡ true
script-good ts [] h = ap are_good h
script-good ts (u ∷ us) h = ap are_good h.2 ∙ pair-good h.0 (text.stop ∷ h.1) (derives-good h.0 u h.3) (script-good h.1 us h.4)

first-good : (p q : Bool) → (p && q) ≡ true → p ≡ true
first-good true q e = refl
first-good false q e = e

rest-is-good : (p q : Bool) → (p && q) ≡ true → q ≡ true
rest-is-good true q e = e
rest-is-good false q e = absurd (cc)

good-token : (t : Token) → is_good t ≡ true → t ≢ text.bad
good-token t g e = let no : false ≡ true = sym (ap is_good e) ∙ g in absurd (cc)

all-spanned : (xs : List TokenSpan) → are_good (tokens_of xs) ≡ true → AllGood xs
all-spanned [] g = tt
all-spanned (x ∷ xs) g = (good-token x.token (first-good (is_good x.token) (are_good (tokens_of xs)) g), all-spanned xs (rest-is-good (is_good x.token) (are_good (tokens_of xs)) g))

pub spelled_good : (bytes : List ℕ) (ts : List Tree) (s : SpellsTerms bytes ts) → AllGood s.tokens
spelled_good bytes ts s = all-spanned s.tokens (script-good (tokens_of s.tokens) ts s.derives)

listable : (bytes : List ℕ) (ts : List Tree) → SpellsTerms bytes ts → IsListable bytes
listable bytes ts s = record { short = s.short; tokens = s.tokens; are = s.are; good = spelled_good bytes ts s }

pub refused_placed : RefusedTextIsPlaced
refused_placed bytes script.too_long r = tt
refused_placed bytes (script.token at) r = r.short
refused_placed bytes (script.too_deep at) r = r.short
refused_placed bytes (script.too_large at) r = r.short
refused_placed bytes (script.form n) r = listable bytes r.terms r.spelled
refused_placed bytes script.too_many_forms r = tt
refused_placed bytes (script.broken rule n) r = listable bytes r.spelled.terms r.spelled.spelled
refused_placed bytes script.bad_picks r = tt
