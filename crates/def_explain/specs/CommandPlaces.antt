-- Where the commands of a script's text begin (own).
-- Depends on the tokens of a text, and on places in it. A command is a tuple in the list of a form {control,Commands}.
use Rattle.std.specs.Prelude.{ℕ, suc, ◌-◌, ◌==◌, Bool, false, if◌then◌else◌, List, [], ◌∷◌, ◌++◌, codes}
use Rattle.std.specs.Str.{bytes_eq}
use Rattle.def_text.specs.Tokens.{Token, open_brace, close_brace, open_bracket, close_bracket, stop, atom, TokenSpan}

-- where a token is: before a form, the first after the brace that opens one, in a form of another kind, or in a control form and within so many brackets
pub data TokenPlace : Type 0 where
  before_form : TokenPlace
  at_tag : TokenPlace
  in_other_form : TokenPlace
  in_control : ℕ → TokenPlace

-- the atom `control`
abbrev pub is_control : Token → Bool
is_control (atom s) = bytes_eq s (codes "control")
is_control t = false

-- where the next token is, in a control form
abbrev pub after_in_control : ℕ → Token → TokenPlace
after_in_control n open_brace = in_control (suc n)
after_in_control n open_bracket = in_control (suc n)
after_in_control n close_brace = in_control (n - 1)
after_in_control n close_bracket = in_control (n - 1)
after_in_control n stop = before_form
after_in_control n t = in_control n

-- a form begins where its tuple is opened
abbrev pub after_before_form : Token → TokenPlace
after_before_form open_brace = at_tag
after_before_form stop = before_form
after_before_form t = in_other_form

-- the first element says which form it is
abbrev pub after_at_tag : Token → TokenPlace
after_at_tag stop = before_form
after_at_tag t = if is_control t then in_control 1 else in_other_form

-- a form ends with a full stop
abbrev pub after_in_other_form : Token → TokenPlace
after_in_other_form stop = before_form
after_in_other_form t = in_other_form

-- where the next token is
abbrev pub place_after_token : TokenPlace → Token → TokenPlace
place_after_token before_form t = after_before_form t
place_after_token at_tag t = after_at_tag t
place_after_token in_other_form t = after_in_other_form t
place_after_token (in_control n) t = after_in_control n t

-- the token is the brace of a tuple in the list of a control form
abbrev pub begins_command : TokenPlace → Token → Bool
begins_command (in_control n) open_brace = n == 2
begins_command p t = false

-- the offsets at which commands begin, in order, among these tokens of which the first is there
abbrev pub command_starts : TokenPlace → List TokenSpan → List ℕ
command_starts p [] = []
command_starts p (x ∷ xs) = (if begins_command p x.token then x.from ∷ [] else []) ++ command_starts (place_after_token p x.token) xs
