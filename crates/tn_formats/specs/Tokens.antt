-- What a writer of JSON gains (own).
use Rattle.std.specs.Prelude.{◌≡◌, ℕ, List, [], ◌∷◌, ◌++◌, Result, OnOk, codes, decimal}
use Rattle.json.specs.Json.{Json}
use Rattle.json.specs.Token.{Token, key, number}
use Rattle.json.specs.Tree.{json_tokens}
use Rattle.json.specs.Written.{Written}
use Rattle.def_formats.specs.Lines.{message_kind, message_pid}
use Rattle.def_formats.specs.Summaries.{Load}
use Rattle.def_formats.specs.JsonRows.{text_value, numeral_value}
use Rattle.def_formats.specs.RefusalRows.{place_value}

-- these tokens after the ones before
pub record GainsTokens (old new : Written) (ts : List Token) : Type 0 where
  pub tokens : new.tokens ≡ old.tokens ++ ts
  pub before : new.before ≡ old.before

abbrev pub AddsTokens : {T E : Type 0} → Result T E → Written → Written → List Token → Type 0
AddsTokens r old new ts = OnOk r (GainsTokens old new ts)

-- ---- the tokens of members

-- of a member and its value
abbrev pub json_member : List ℕ → Json → List Token
json_member name v = key name ∷ json_tokens v

abbrev pub text_member : List ℕ → List ℕ → List Token
text_member name text = key name ∷ json_tokens (text_value text)

abbrev pub numeral_member : List ℕ → List ℕ → List Token
numeral_member name text = key name ∷ json_tokens (numeral_value text)

abbrev pub number_member : List ℕ → ℕ → List Token
number_member name n = key name ∷ number (decimal n) ∷ []

-- of members and their values
abbrev pub tokens_of_members : List (List ℕ × Json) → List Token
tokens_of_members [] = []
tokens_of_members (m ∷ ms) = key m.0 ∷ (json_tokens m.1 ++ tokens_of_members ms)

-- of a session
abbrev pub session_tokens : (name tracer : List ℕ) → List Token
session_tokens name tracer = text_member (codes "session") name ++ text_member (codes "tracer") tracer

-- of so many messages with so many bytes
abbrev pub load_tokens : Load → List Token
load_tokens l = number_member (codes "messages") l.messages ++ number_member (codes "bytes") l.bytes

-- of a message
abbrev pub message_tokens : ℕ → List ℕ → List Token
message_tokens n line =
    number_member (codes "message") n ++ text_member (codes "kind") (message_kind line) ++ text_member (codes "pid") (message_pid line) ++ text_member (codes "text") line

-- of its kind, its pid and its text
abbrev pub message_parts_tokens : List ℕ → List Token
message_parts_tokens line =
    text_member (codes "kind") (message_kind line) ++ text_member (codes "pid") (message_pid line) ++ text_member (codes "text") line

-- of a move
abbrev pub move_tokens : (move pick event : List ℕ) → List Token
move_tokens move pick event = numeral_member (codes "move") move ++ numeral_member (codes "pick") pick ++ text_member (codes "event") event

-- of where a text is refused
abbrev pub place_member : List ℕ → List Token
place_member place = key (codes "place") ∷ json_tokens (place_value place)
