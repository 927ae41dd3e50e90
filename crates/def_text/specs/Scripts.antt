-- Which terms a text spells as a script, and how a text that spells none is refused: as for one term, but for any number of terms with a full stop after each.
-- Depends on the tokens, the grammar, the limits and the kinds of refusal (own).
use Rattle.std.specs.Prelude.{◌≡◌, ℕ, ◌≤◌, List, [], ◌∷◌, ◌++◌, length, Bool, true, false}
use Rattle.def_term.specs.Tree.{Tree}
use Rattle.def_text.specs.Tokens.{Token, TokenSpan, Tokens}
use Rattle.def_text.specs.Grammar.{DerivesScript}
use Rattle.def_text.specs.Limits.{DEPTH, Fits}
use Rattle.def_text.specs.Faults.{FaultKind, misplaced, too_deep, too_large, Fault}
use Rattle.def_text.specs.Spelling.{LENGTH, tokens_of, offset_of}

-- each term is within the limits
abbrev pub EachFits : ℕ → Bool → List Tree → Type 0
EachFits limit sized [] = Unit {0}
EachFits limit sized (t ∷ ts) = Fits limit sized t × EachFits limit sized ts

-- some further tokens complete it to a script of terms within the limits
abbrev pub BeginsScript : ℕ → Bool → List Token → Type 0
BeginsScript limit sized front = (further : List Token) × (ts : List Tree) × DerivesScript (front ++ further) ts × EachFits limit sized ts

-- the same without limits
abbrev pub BeginsAnyScript : List Token → Type 0
BeginsAnyScript front = (further : List Token) × (ts : List Tree) × DerivesScript (front ++ further) ts

-- which refusal it is after a front that begins a script within the limits: 2 where with the next token it begins none even without limits; else 3 where it begins none within the depth; else 4
abbrev pub ScriptFaultAt : ℕ → List Token → FaultKind → List Token → Type 0
ScriptFaultAt limit front misplaced [] = (ts : List Tree) → DerivesScript front ts → ⊥
ScriptFaultAt limit front too_deep [] = ⊥
ScriptFaultAt limit front too_large [] = ⊥
ScriptFaultAt limit front misplaced (x ∷ rest) = BeginsAnyScript (front ++ x ∷ []) → ⊥
ScriptFaultAt limit front too_deep (x ∷ rest) = BeginsAnyScript (front ++ x ∷ []) × (BeginsScript limit false (front ++ x ∷ []) → ⊥)
ScriptFaultAt limit front too_large (x ∷ rest) = BeginsScript limit false (front ++ x ∷ []) × (BeginsScript limit true (front ++ x ∷ []) → ⊥)

-- the refused token is the last of the shortest front that begins no script within the limits
abbrev pub IsFirstScriptFault : ℕ → List Token → Fault → Type 0
IsFirstScriptFault limit xs r = (front : List Token) × (xs ≡ front ++ r.1) × BeginsScript limit true front × ScriptFaultAt limit front r.0 r.1

-- the tokens of the bytes derive the terms, each with a full stop after it, within the limits
pub record SpellsTerms (bytes : List ℕ) (ts : List Tree) : Type 0 where
  pub short : length bytes ≤ LENGTH
  pub tokens : List TokenSpan
  pub are : Tokens bytes tokens
  pub derives : DerivesScript (tokens_of tokens) ts
  pub fits : EachFits DEPTH true ts

-- the text is refused as a script with this refusal, at the offset of the first byte of the refused token
pub record ScriptRefused (bytes : List ℕ) (kind : FaultKind) (at : ℕ) : Type 0 where
  pub short : length bytes ≤ LENGTH
  pub front : List TokenSpan
  pub rest : List TokenSpan
  pub are : Tokens bytes (front ++ rest)
  pub first : IsFirstScriptFault DEPTH (tokens_of (front ++ rest)) (kind, tokens_of rest)
  pub offset : at ≡ offset_of (length bytes) rest
