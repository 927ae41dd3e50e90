-- What the code's views of a place of a text stand for, and what a line says of a refused token.
-- Depends on what a line says of a refused token, with what stands at a place given.
use Rattle.std.specs.Prelude.{◌≡◌, ℕ, List, ◌++◌, Option}
use Rattle.std.specs.Option.{option_map}
use Rattle.def_wording.specs.SyntaxTexts as texts
use Rattle.tn_refusal.specs.declared.item.Thing.{Thing}
use Rattle.tn_refusal.specs.declared.item.Thing.TheVariants.{End, Variable, Reserved, Atom, Number, Quoted, Unquoted, Characters, Unclosed, Float, Stop, Dot, Pid, Binary, Angle, Map, Hash, Literal, Bar, Open, Close, Comma, Location, Byte}
use Rattle.tn_refusal.specs.declared.item.TextItem.{TextItem}
use Rattle.tn_refusal.specs.declared.position.Position.{Position}
use Rattle.tn_refusal.specs.declared.position.Position.TheVariants.{Form, First, Next, After, Done}
use Rattle.tn_refusal.specs.declared.position.OpenFrame.{OpenFrame}
use Rattle.tn_refusal.specs.declared.position.ReadState.{ReadState}
use Rattle.tn_refusal.specs.declared.position.TextKind.{TextKind}
use Rattle.tn_refusal.specs.declared.position.TextKind.TheVariants.{Script, Term}
use Rattle.tn_refusal.specs.declared.syntax.TokenFault.{TokenFault}
use Rattle.tn_refusal.specs.declared.syntax.TokenFault.TheVariants.{Misplaced, Deep, Large}

abbrev pub thing_seen : Thing → texts.TextThing
thing_seen End = texts.an_end
thing_seen Variable = texts.a_variable_word
thing_seen Reserved = texts.a_reserved_word
thing_seen Atom = texts.a_bare_atom
thing_seen Number = texts.a_number
thing_seen Quoted = texts.a_quoted_atom
thing_seen Unquoted = texts.an_open_quote
thing_seen Characters = texts.a_string
thing_seen Unclosed = texts.an_open_string
thing_seen Float = texts.a_float
thing_seen Stop = texts.a_stop
thing_seen Dot = texts.a_dot
thing_seen Pid = texts.a_pid
thing_seen Binary = texts.a_binary
thing_seen Angle = texts.an_angle
thing_seen Map = texts.a_map
thing_seen Hash = texts.a_hash
thing_seen Literal = texts.a_literal
thing_seen Bar = texts.a_bar
thing_seen Open = texts.an_opener
thing_seen Close = texts.a_closer
thing_seen Comma = texts.a_comma
thing_seen Location = texts.a_mark
thing_seen Byte = texts.a_byte

abbrev pub text_item_seen : TextItem → texts.ThingAt
text_item_seen x = record { thing = thing_seen x.thing; bytes = x.bytes.now }

abbrev pub next_seen : Position → texts.NextPart
next_seen Form = texts.a_form
next_seen First = texts.a_first
next_seen Next = texts.an_element
next_seen After = texts.an_after
next_seen Done = texts.an_ending

abbrev pub bracket_seen : OpenFrame → texts.OpenBracket
bracket_seen b = record { is_tuple = b.is_tuple; at = b.at; commas = b.commas }

abbrev pub innermost_seen : Option OpenFrame → Option texts.OpenBracket
innermost_seen b = option_map bracket_seen b

abbrev pub read_state_seen : ReadState → texts.ReadSoFar
read_state_seen s = record { next = next_seen s.position; innermost = innermost_seen s.innermost }

abbrev pub read_states_seen : Option ReadState → Option texts.ReadSoFar
read_states_seen s = option_map read_state_seen s

abbrev pub kind_seen : TextKind → texts.TextKind
kind_seen Script = texts.of_script
kind_seen Term = texts.of_term

-- what a line says of a refused token, where this stands there, so far is the text read, and so many characters are in quotes
abbrev pub token_text : TokenFault → List ℕ → Option texts.ReadSoFar → texts.ThingAt → ℕ → texts.TextKind → List ℕ
token_text Misplaced bytes s x n k = texts.misplaced_text bytes s x k
token_text Deep bytes s x n k = texts.deep_text x
token_text Large bytes s x n k = texts.large_text bytes s x.thing x.bytes n

-- the text gained what a line says of a refused token, for something that stands there
pub record TellsToken (f : TokenFault) (bytes : List ℕ) (k : texts.TextKind) (old new : List ℕ) : Type 0 where
  pub standing : Option texts.ReadSoFar
  pub found : texts.ThingAt
  pub characters : ℕ
  pub told : new ≡ old ++ token_text f bytes standing found characters k
