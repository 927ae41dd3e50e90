-- Where commands begin, by the tokens that the code lists.
use Rattle.std.specs.Prelude.{◌≡◌, ℕ, pos, ◌-◌, Bool, false, if◌then◌else◌, List, [], ◌∷◌, ◌++◌, take, drop, Option, Some, None, codes}
use Rattle.std.specs.Str.{bytes_eq}
use Rattle.std.specs.declared.vec.Vec.{Vec}
use Rattle.def_text.specs.Tokens as text
use Rattle.def_text.specs.Tokens.{TokenSpan, Tokens}
use Rattle.def_explain.specs.CommandPlaces as places
use Rattle.def_explain.specs.CommandPlaces.{place_after_token, begins_command, command_starts}
use Rattle.tn_text.specs.declared.scan.Kind.{Kind}
use Rattle.tn_text.specs.declared.scan.Kind.TheVariants.{OpenBrace, CloseBrace, OpenBracket, CloseBracket, Comma, Stop, Integer, Bare, Quoted, Characters, Pid}
use Rattle.tn_text.specs.declared.lexer.Token.{Token}
use Rattle.tn_refusal.specs.Starts.{IsListable}
use Rattle.tn_replay.specs.declared.command_starts.TokenPlace.{TokenPlace}
use Rattle.tn_replay.specs.declared.command_starts.TokenPlace.TheVariants.{BeforeForm, AtTag, InOtherForm, InControl}

abbrev pub place_seen : TokenPlace → places.TokenPlace
place_seen BeforeForm = places.before_form
place_seen AtTag = places.at_tag
place_seen InOtherForm = places.in_other_form
place_seen (InControl n) = places.in_control n

-- within how many brackets of a control form
abbrev pub depth_of : TokenPlace → ℕ
depth_of (InControl n) = n
depth_of p = 0

-- the bytes of a token
abbrev pub token_bytes : List ℕ → Token → List ℕ
token_bytes bytes v = take (v.to - v.from) (drop v.from bytes)

-- a token of this kind and these bytes is the atom `control`
abbrev pub spells_control : Kind → List ℕ → Bool
spells_control Bare u = bytes_eq u (codes "control")
spells_control Quoted u = bytes_eq u (codes "'control'")
spells_control k u = false

-- a token of this kind, which for an atom is `control` or isn't
abbrev pub token_of : Kind → Bool → text.Token
token_of OpenBrace b = text.open_brace
token_of CloseBrace b = text.close_brace
token_of OpenBracket b = text.open_bracket
token_of CloseBracket b = text.close_bracket
token_of Comma b = text.comma
token_of Stop b = text.stop
token_of Integer b = text.integer (pos 0)
token_of Bare b = text.atom (if b then codes "control" else [])
token_of Quoted b = text.atom (if b then codes "control" else [])
token_of Characters b = text.characters []
token_of Pid b = text.pid 0

-- what a token of the code is, as far as commands begin by it
abbrev pub token_seen : List ℕ → Token → text.Token
token_seen bytes v = token_of v.kind (spells_control v.kind (token_bytes bytes v))

-- the offsets at which commands begin among these tokens, of which the first is there
abbrev pub starts_shown : List ℕ → places.TokenPlace → List Token → List ℕ
starts_shown bytes p [] = []
starts_shown bytes p (v ∷ vs) =
    (if begins_command p (token_seen bytes v) then v.from ∷ [] else []) ++ starts_shown bytes (place_after_token p (token_seen bytes v)) vs

-- the offsets at which the commands of the text begin; none where the text is too long or has bytes that form no token
abbrev pub AreCommandStarts : {A : Type 0} → List ℕ → Option (Vec ℕ A) → Type 0
AreCommandStarts bytes (Some v) = (xs : List TokenSpan) × Tokens bytes xs × (v.items ≡ command_starts places.before_form xs)
AreCommandStarts bytes None = IsListable bytes → ⊥
