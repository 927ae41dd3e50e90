-- What is promised of tokens, of reading and of written text (own).
-- Depends on the tokens, the grammar, what texts spell and how they are refused.
use Rattle.std.specs.Prelude.{◌≡◌, ℕ, ℤ, ◌<◌, ◌≤◌, ◌^◌, List, length, Ok, Err, true, ◌⊎◌}
use Rattle.def_term.specs.Tree.{Tree}
use Rattle.def_term.specs.Tree.{int, atom as name, pid as process}
use Rattle.def_term.specs.Text.{is_digit, is_name_byte, w}
use Rattle.def_text.specs.Tokens.{Token, integer, atom, pid, all_are, is_printable, stops, IsToken, TokenSpan, Tokens}
use Rattle.def_text.specs.Grammar.{Derives, DerivesScript}
use Rattle.def_text.specs.Limits.{DEPTH, Fits, in_range}
use Rattle.def_text.specs.Faults.{FaultKind, Fault, IsFirstFault}
use Rattle.def_text.specs.Reading.{read}
use Rattle.def_text.specs.Spelling.{LENGTH, Spells, IsRefusedAt}
use Rattle.def_text.specs.Scripts.{EachFits, IsFirstScriptFault, SpellsTerms, ScriptRefused}
use Rattle.def_text.specs.ScriptReading.{read_script}
use Rattle.def_text.specs.Writable.{is_writable}

-- ---- tokens

-- a text has one list of tokens at most
abbrev pub TokensAreOne : Type 0
TokensAreOne = (bytes : List ℕ) (xs ys : List TokenSpan) → Tokens bytes xs → Tokens bytes ys → xs ≡ ys

-- and each text has one
abbrev pub TokensAreThere : Type 0
TokensAreThere = (bytes : List ℕ) → (xs : List TokenSpan) × Tokens bytes xs

-- ---- reading one term

-- what is read is what the tokens derive, within the limits
abbrev pub ReadTermIsDerived : Type 0
ReadTermIsDerived = (limit : ℕ) (ts : List Token) (t : Tree) → read limit true ts ≡ Ok t → Derives ts t × Fits limit true t

-- and what they derive within the limits is read
abbrev pub DerivedTermIsRead : Type 0
DerivedTermIsRead = (limit : ℕ) (ts : List Token) (t : Tree) → Derives ts t → Fits limit true t → read limit true ts ≡ Ok t

-- a refusal is that of the shortest front that begins no term within the limits
abbrev pub TermFaultIsFirst : Type 0
TermFaultIsFirst = (limit : ℕ) (ts : List Token) (r : Fault) → read limit true ts ≡ Err r → IsFirstFault limit ts r

-- ---- reading a script

-- what is read is what the tokens derive as a script, within the limits
abbrev pub ReadScriptIsDerived : Type 0
ReadScriptIsDerived = (limit : ℕ) (xs : List Token) (ts : List Tree) → read_script limit true xs ≡ Ok ts → DerivesScript xs ts × EachFits limit true ts

-- and what they derive within the limits is read
abbrev pub DerivedScriptIsRead : Type 0
DerivedScriptIsRead = (limit : ℕ) (xs : List Token) (ts : List Tree) → DerivesScript xs ts → EachFits limit true ts → read_script limit true xs ≡ Ok ts

-- a refusal is that of the shortest front that begins no script within the limits
abbrev pub ScriptFaultIsFirst : Type 0
ScriptFaultIsFirst = (limit : ℕ) (xs : List Token) (r : Fault) → read_script limit true xs ≡ Err r → IsFirstScriptFault limit xs r

-- ---- texts of one term

-- a text spells at most one term
abbrev pub SpelledTermIsOne : Type 0
SpelledTermIsOne = (bytes : List ℕ) (t u : Tree) → Spells bytes t → Spells bytes u → t ≡ u

-- a text that spells a term is not refused
abbrev pub SpelledTermIsNotRefused : Type 0
SpelledTermIsNotRefused = (bytes : List ℕ) (t : Tree) (kind : FaultKind) (at : ℕ) → Spells bytes t → IsRefusedAt bytes kind at → ⊥

-- a text is refused in one way at most
abbrev pub TermRefusalIsOne : Type 0
TermRefusalIsOne = (bytes : List ℕ) (kind other : FaultKind) (at there : ℕ) → IsRefusedAt bytes kind at → IsRefusedAt bytes other there → (kind ≡ other) × (at ≡ there)

-- within the length each text spells a term or is refused
abbrev pub TermOrRefusal : Type 0
TermOrRefusal = (bytes : List ℕ) → length bytes ≤ LENGTH → ((t : Tree) × Spells bytes t) ⊎ ((kind : FaultKind) × (at : ℕ) × IsRefusedAt bytes kind at)

-- ---- texts of scripts

-- a text spells the terms of one script at most
abbrev pub SpelledTermsAreOne : Type 0
SpelledTermsAreOne = (bytes : List ℕ) (ts us : List Tree) → SpellsTerms bytes ts → SpellsTerms bytes us → ts ≡ us

-- a text that spells terms with full stops is not refused as a script
abbrev pub SpelledTermsAreNotRefused : Type 0
SpelledTermsAreNotRefused = (bytes : List ℕ) (ts : List Tree) (kind : FaultKind) (at : ℕ) → SpellsTerms bytes ts → ScriptRefused bytes kind at → ⊥

-- a text is refused as a script in one way at most
abbrev pub ScriptRefusalIsOne : Type 0
ScriptRefusalIsOne = (bytes : List ℕ) (kind other : FaultKind) (at there : ℕ) → ScriptRefused bytes kind at → ScriptRefused bytes other there → (kind ≡ other) × (at ≡ there)

-- within the length each text spells terms with full stops or is refused as a script
abbrev pub TermsOrRefusal : Type 0
TermsOrRefusal = (bytes : List ℕ) → length bytes ≤ LENGTH → ((ts : List Tree) × SpellsTerms bytes ts) ⊎ ((kind : FaultKind) × (at : ℕ) × ScriptRefused bytes kind at)

-- ---- written text

-- the written text of an integer is its token, where no digit follows
abbrev pub IntegerIsItsToken : Type 0
IntegerIsItsToken = (n : ℤ) (rest : List ℕ) → in_range n ≡ true → stops is_digit rest ≡ true → IsToken (w (int n)) rest (integer n)

-- that of a pid is its token, whatever follows
abbrev pub PidIsItsToken : Type 0
PidIsItsToken = (n : ℕ) (rest : List ℕ) → n < 2 ^ 32 → IsToken (w (process n)) rest (pid n)

-- that of an atom is its token, where what follows doesn't continue the name
abbrev pub AtomIsItsToken : Type 0
AtomIsItsToken = (s rest : List ℕ) → all_are is_printable s ≡ true → stops is_name_byte rest ≡ true → IsToken (w (name s)) rest (atom s)

-- the written text of a tree within the limits spells the tree
abbrev pub WrittenTextSpells : Type 0
WrittenTextSpells = (t : Tree) → is_writable t ≡ true → Fits DEPTH true t → length (w t) ≤ LENGTH → Spells (w t) t
