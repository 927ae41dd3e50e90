-- Where the steps and the commands of a form begin (own).
-- Depends on the tokens of a text and on where forms begin. The steps are element 6 of a function form, and the commands element 2 of a control form.
use Rattle.std.specs.Prelude.{◌≡◌, ℕ, suc, ◌-◌, ◌==◌, ◌&&◌, Bool, true, false, if◌then◌else◌, List, [], ◌∷◌, ◌++◌, length}
use Rattle.def_term.specs.Tree.{Tree}
use Rattle.def_text.specs.Tokens.{Token, open_brace, close_brace, open_bracket, close_bracket, comma, TokenSpan, Tokens}
use Rattle.def_text.specs.Grammar.{Derives}
use Rattle.def_text.specs.Spelling.{offset_of, tokens_of}
use Rattle.def_text.specs.Forms.{after_stops}
use Rattle.def_refusal.specs.Items.{FormItem, step, command, numbered_command}

-- what a token does to a tuple or a list: opens it, closes it, or separates its elements
pub data TokenRole : Type 0 where
  opener : TokenRole
  closer : TokenRole
  separator : TokenRole
  no_role : TokenRole

abbrev pub role_of : Token → TokenRole
role_of open_brace = opener
role_of close_brace = closer
role_of open_bracket = opener
role_of close_bracket = closer
role_of comma = separator
role_of t = no_role

-- how many brackets are open after the token
abbrev pub depth_after : ℕ → TokenRole → ℕ
depth_after d opener = suc d
depth_after d closer = d - 1
depth_after d separator = d
depth_after d no_role = d

-- how many commas are left after the token: those within a bracket don't count
abbrev pub commas_after : ℕ → ℕ → TokenRole → ℕ
commas_after d n opener = n
commas_after d n closer = n
commas_after d n separator = if d == 0 then n - 1 else n
commas_after d n no_role = n

-- the tokens after so many commas outside of brackets, where so many brackets are open
abbrev pub tokens_past_commas : ℕ → ℕ → List TokenSpan → List TokenSpan
tokens_past_commas d n [] = []
tokens_past_commas d n (x ∷ xs) = if n == 0 then x ∷ xs else tokens_past_commas (depth_after d (role_of x.token)) (commas_after d n (role_of x.token)) xs

-- the token opens a tuple or a list
abbrev pub is_opener : TokenRole → Bool
is_opener opener = true
is_opener r = false

-- the tokens after the bracket at the front; all of them where none is there, as before a string
abbrev pub in_bracket : List TokenSpan → List TokenSpan
in_bracket [] = []
in_bracket (x ∷ xs) = if is_opener (role_of x.token) then xs else x ∷ xs

-- the tokens of element n, counted from 1, of the tuple or list at the front, and all after them
abbrev pub from_element : ℕ → List TokenSpan → List TokenSpan
from_element n xs = tokens_past_commas 0 (n - 1) (in_bracket xs)

-- which element of the form's tuple has it
abbrev pub form_element_of : FormItem → ℕ
form_element_of (step k) = 6
form_element_of (command k) = 2
form_element_of (numbered_command k n) = 2

-- its position in that element
abbrev pub item_position : FormItem → ℕ
item_position (step k) = k
item_position (command k) = k
item_position (numbered_command k n) = k

-- the tokens of the item of form n, counted from 1, and all after them
abbrev pub from_item : ℕ → FormItem → List TokenSpan → List TokenSpan
from_item n i xs = from_element (item_position i) (from_element (form_element_of i) (after_stops (n - 1) xs))

-- the step or command of form n begins at that offset of the text
pub record ItemBegins (bytes : List ℕ) (n : ℕ) (i : FormItem) (at : ℕ) : Type 0 where
  pub tokens : List TokenSpan
  pub are : Tokens bytes tokens
  pub offset : at ≡ offset_of (length bytes) (from_item n i tokens)

-- ---- what that is

-- so many terms, each with a comma after it
abbrev pub DerivesEach : List Token → List Tree → Type 0
DerivesEach ts [] = ts ≡ []
DerivesEach ts (u ∷ us) = (xs ys : List Token) × (ts ≡ xs ++ comma ∷ ys) × Derives xs u × DerivesEach ys us

-- the rest of the tokens are those of an element and all after them: before them are so many elements, each with a comma after it
pub record IsFromElement (n : ℕ) (xs rest : List TokenSpan) : Type 0 where
  pub front : List TokenSpan
  pub elements : List Tree
  pub split : xs ≡ front ++ rest
  pub each : DerivesEach (tokens_of front) elements
  pub count : length elements ≡ n
