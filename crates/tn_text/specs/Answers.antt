-- What the calls answer.
use Rattle.std.specs.Prelude.{◌≡◌, ℕ, ◌<◌, ◌≤◌, List, [], ◌∷◌, ◌++◌, length, map, Result, Ok, Err}
use Rattle.std.specs.declared.vec.Vec.{Vec}
use Rattle.tn_term.specs.declared.term.Term.{Term}
use Rattle.tn_term.specs.Views.{tree_of}
use Rattle.tn_text.specs.declared.lexer.Token.{Token}
use Rattle.tn_text.specs.declared.fault.TextFault.{TextFault}
use Rattle.tn_text.specs.declared.fault.TextFault.TheVariants.{TooLong, Token as NoToken, TooDeep, TooLarge, OutOfMemory}
use Rattle.tn_text.specs.Lexer.{AllShown, AllGood}
use Rattle.def_text.specs.Tokens as text
use Rattle.def_text.specs.Tokens.{TokenSpan, Tokens}
use Rattle.def_text.specs.Faults.{misplaced, too_deep, too_large}
use Rattle.def_text.specs.Scripts.{SpellsTerms, ScriptRefused}
use Rattle.def_text.specs.Spelling.{LENGTH, Spells, IsRefusedAt}

-- the tokens, none of which is bad
pub record AreTokens (bytes : List ℕ) (vs : List Token) : Type 0 where
  pub short : length bytes ≤ LENGTH
  pub tokens : List TokenSpan
  pub are : Tokens bytes tokens
  pub good : AllGood tokens
  pub shown : AllShown bytes vs tokens

-- the last token is the only bad one, and stands there
pub record NoTokenAt (bytes : List ℕ) (at : ℕ) : Type 0 where
  pub short : length bytes ≤ LENGTH
  pub front : List TokenSpan
  pub last : TokenSpan
  pub are : Tokens bytes (front ++ last ∷ [])
  pub good : AllGood front
  pub bad : last.token ≡ text.bad
  pub place : last.from ≡ at

-- the tokens of the text, or the first place where none stands
abbrev pub IsTokenList : {A : Type 0} → List ℕ → Result (Vec Token A) TextFault → Type 0
IsTokenList bytes (Ok v) = AreTokens bytes v.items
IsTokenList bytes (Err TooLong) = LENGTH < length bytes
IsTokenList bytes (Err (NoToken at)) = NoTokenAt bytes at
IsTokenList bytes (Err (TooDeep at)) = ⊥
IsTokenList bytes (Err (TooLarge at)) = ⊥
IsTokenList bytes (Err OutOfMemory) = Unit {0}

-- the refusal of a text that is to be one term
abbrev pub IsTextRefusal : List ℕ → TextFault → Type 0
IsTextRefusal bytes TooLong = LENGTH < length bytes
IsTextRefusal bytes (NoToken at) = IsRefusedAt bytes misplaced at
IsTextRefusal bytes (TooDeep at) = IsRefusedAt bytes too_deep at
IsTextRefusal bytes (TooLarge at) = IsRefusedAt bytes too_large at
IsTextRefusal bytes OutOfMemory = Unit {0}

-- the term that the text spells, or the refusal of the text
abbrev pub IsTermRead : {A : Type 0} → List ℕ → Result (Term A) TextFault → Type 0
IsTermRead bytes (Ok t) = Spells bytes (tree_of t)
IsTermRead bytes (Err fault) = IsTextRefusal bytes fault

-- the refusal of a text that is to be a script
abbrev pub IsScriptRefusal : List ℕ → TextFault → Type 0
IsScriptRefusal bytes TooLong = LENGTH < length bytes
IsScriptRefusal bytes (NoToken at) = ScriptRefused bytes misplaced at
IsScriptRefusal bytes (TooDeep at) = ScriptRefused bytes too_deep at
IsScriptRefusal bytes (TooLarge at) = ScriptRefused bytes too_large at
IsScriptRefusal bytes OutOfMemory = Unit {0}

-- the terms that the text spells, each with its full stop, or the refusal of the text
abbrev pub IsReadScript : {A : Type 0} → List ℕ → Result (Vec (Term A) A) TextFault → Type 0
IsReadScript bytes (Ok v) = SpellsTerms bytes (map tree_of v.items)
IsReadScript bytes (Err fault) = IsScriptRefusal bytes fault
