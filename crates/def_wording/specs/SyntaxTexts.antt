-- What a line says of a refused token (own): refusals 2 to 4.
-- Depends on places and on how much of a token is shown. What stands at a place, and how far the text is read there, is given.
use Rattle.std.specs.Prelude.{ℕ, ◌+◌, ◌-◌, ◌^◌, ◌==◌, ◌&&◌, min, Bool, true, false, List, [], ◌∷◌, ◌++◌, length, Option, Some, None, codes, decimal, if◌then◌else◌}
use Rattle.std.specs.Str.{bytes_eq}
use Rattle.def_term.specs.Text.{is_digit}
use Rattle.def_wording.specs.ShownTexts.{shown_text}
use Rattle.def_wording.specs.PlaceTexts.{spot_text}

-- ---- what is given

-- what stands at a place
pub data TextThing : Type 0 where
  -- nothing: the text ends there
  an_end : TextThing
  -- a word that begins with a capital letter or `_`, a reserved word, and another word or what is in quotes
  a_variable_word a_reserved_word a_bare_atom a_quoted_atom : TextThing
  -- a quote that isn't closed, or after which a byte stands that is no character: that byte
  an_open_quote : TextThing
  a_number : TextThing
  -- what is in double quotes, and the same of a double quote
  a_string an_open_string : TextThing
  a_float : TextThing
  -- a full stop, and a dot that is none
  a_stop a_dot : TextThing
  a_pid : TextThing
  -- `<<`, and another `<`
  a_binary an_angle : TextThing
  -- `#{`, and another `#`
  a_map a_hash : TextThing
  -- `$` with a character, and `|`
  a_literal a_bar : TextThing
  -- `{` or `[`, `}` or `]`, and a comma
  an_opener a_closer a_comma : TextThing
  -- another character, and a byte that is none
  a_mark a_byte : TextThing

-- what stands there, with its bytes
pub record ThingAt : Type 0 where
  pub thing : TextThing
  pub bytes : List ℕ

-- what may stand next: a form, the first element of what is open or its end, an element, what follows an element, or the end of a form
pub data NextPart : Type 0 where
  a_form a_first an_element an_after an_ending : NextPart

-- a tuple or a list that is open: whether it is a tuple, the offset of its bracket, and how many commas stand in it
pub record OpenBracket : Type 0 where
  pub is_tuple : Bool
  pub at : ℕ
  pub commas : ℕ

-- how far a text is read
pub record ReadSoFar : Type 0 where
  pub next : NextPart
  pub innermost : Option OpenBracket

-- a script, or one term
pub data TextKind : Type 0 where
  of_script of_term : TextKind

-- ---- the thing that is found

-- what it is, before its bytes
abbrev pub thing_words : TextThing → List ℕ
thing_words an_end = codes "the end of the text"
thing_words a_variable_word = codes "the variable "
thing_words a_reserved_word = codes "the reserved word "
thing_words a_bare_atom = codes "the atom "
thing_words a_quoted_atom = codes "the atom "
thing_words a_number = codes "the number "
thing_words a_string = codes "the string "
thing_words a_float = codes "the float "
thing_words a_stop = codes "the full stop"
thing_words a_dot = codes "a dot"
thing_words a_pid = codes "the pid "
thing_words a_binary = codes "a binary"
thing_words a_map = codes "a map"
thing_words a_literal = codes "the character "
thing_words t = []

-- a byte by its number
abbrev pub byte_text : List ℕ → List ℕ
byte_text [] = []
byte_text (b ∷ bs) = codes "the byte " ++ decimal b

-- why there is no end of what is in quotes: a byte in it that is no character, or nothing closes it
abbrev pub no_end_text : List ℕ → List ℕ
no_end_text [] = codes "that is not closed"
no_end_text (b ∷ bs) = codes "with the byte " ++ decimal b

-- marks stand in quotes
abbrev pub quoted_text : List ℕ → List ℕ
quoted_text bytes = codes "'" ++ shown_text bytes ++ codes "'"

-- what it is, and its bytes
abbrev pub thing_text : TextThing → List ℕ → List ℕ
thing_text a_byte bytes = byte_text bytes
thing_text an_open_quote bytes = codes "a quoted atom " ++ no_end_text bytes
thing_text an_open_string bytes = codes "a string " ++ no_end_text bytes
thing_text an_opener bytes = quoted_text bytes
thing_text a_closer bytes = quoted_text bytes
thing_text a_comma bytes = quoted_text bytes
thing_text a_bar bytes = quoted_text bytes
thing_text a_hash bytes = quoted_text bytes
thing_text an_angle bytes = quoted_text bytes
thing_text a_mark bytes = quoted_text bytes
thing_text t bytes = thing_words t ++ shown_text bytes

-- of what stands at a place
abbrev pub thing_at_text : ThingAt → List ℕ
thing_at_text x = thing_text x.thing x.bytes

-- ---- what may stand there

-- in a tuple, or in a list
abbrev pub in_tuple : Option OpenBracket → Bool
in_tuple None = false
in_tuple (Some b) = b.is_tuple

-- in the words of a line
abbrev pub next_text : NextPart → Bool → TextKind → List ℕ
next_text a_form b of_script = codes "a form"
next_text a_form b of_term = codes "a term"
next_text a_first true k = codes "a term or '}'"
next_text a_first false k = codes "a term or ']'"
next_text an_element b k = codes "a term"
next_text an_after true k = codes "',' or '}'"
next_text an_after false k = codes "',' or ']'"
next_text an_ending b of_script = codes "'.'"
next_text an_ending b of_term = codes "the end of the text"

-- ---- how the text can be fixed

-- of a thing wherever it stands
abbrev pub thing_hint : TextThing → List ℕ
thing_hint a_float = codes ": there are no floats"
thing_hint a_binary = codes ": there are no binaries"
thing_hint a_map = codes ": there are no maps"
thing_hint a_hash = codes ": there are no references, ports or records, and numbers are decimal"
thing_hint a_literal = codes ": a character is written as its number"
thing_hint a_bar = codes ": a list has no tail, though one of a node may have"
thing_hint a_pid = codes ": a pid is <0.N.0>, N without leading zeros"
thing_hint an_angle = codes ": a pid is <0.N.0>, N without leading zeros"
thing_hint an_open_quote = codes ": it has characters 32 to 126, and \\' and \\\\ for ' and \\"
thing_hint an_open_string = codes ": it has characters 32 to 126, and \\\" and \\\\ for \" and \\"
thing_hint t = []

-- a word that is written in quotes
abbrev pub word_in_quotes : List ℕ → List ℕ → List ℕ
word_in_quotes words word = words ++ shown_text word ++ codes "'"

-- a word is what follows the first digits of a number like `1_000`
abbrev pub is_part_of_number : List ℕ → Bool
is_part_of_number (b ∷ c ∷ bs) = (b == 95) && is_digit c
is_part_of_number bs = false

-- of a variable
abbrev pub variable_words_text : List ℕ → List ℕ
variable_words_text word =
    if is_part_of_number word then codes ": numbers have no '_', and variables are written in quotes, '" else codes ": variables are written in quotes, '"

-- of a sign without digits, where a form may stand and elsewhere
abbrev pub sign_hint : NextPart → List ℕ
sign_hint a_form = codes ": a script is no module, and its forms are {function,..}, {process,..} and {control,..}"
sign_hint n = codes ": a sign stands before its digits, as in -1"

-- of a mark, where a form may stand and elsewhere
abbrev pub mark_hint : NextPart → List ℕ → List ℕ
mark_hint n (b ∷ []) =
    if b == 40 then codes ": a term has no calls, and 'Self' is the own pid" else
    if b == 45 then sign_hint n else
    []
mark_hint n bytes = []

-- of a byte that is no character: the first of a typographic quote, or of a byte order mark
abbrev pub byte_hint : List ℕ → List ℕ
byte_hint [] = []
byte_hint (b ∷ bs) =
    if b == 226 then codes ": a typographic quote begins with it, and ' is meant" else
    if b == 239 then codes ": a byte order mark begins with it, and a script has none" else
    []

-- of a reserved word; `fun` begins a fun
abbrev pub reserved_words_text : List ℕ → List ℕ
reserved_words_text word =
    if bytes_eq word (codes "fun") then codes ": there are no funs, and the atom is written '" else codes ": reserved words are written in quotes, '"

-- of an end where nothing is open
abbrev pub unopened_text : TextThing → TextKind → List ℕ
unopened_text an_end of_script = codes ": a form ends with a full stop"
unopened_text an_end of_term = []
unopened_text a_stop of_term = codes ": the term has no full stop after it here"
unopened_text t k = codes ": nothing is open"

-- of an end where a tuple or a list is open
abbrev pub unclosed_text : List ℕ → OpenBracket → List ℕ
unclosed_text bytes b = (if b.is_tuple then codes ": '{' at " else codes ": '[' at ") ++ spot_text bytes b.at ++ codes " is not closed"

-- of an end, by what is open
abbrev pub closing_text : List ℕ → Option OpenBracket → TextThing → TextKind → List ℕ
closing_text bytes None t k = unopened_text t k
closing_text bytes (Some b) t k = unclosed_text bytes b

-- an element must stand next
abbrev pub is_element : NextPart → Bool
is_element an_element = true
is_element n = false

-- of a bracket that closes; it may stand after a comma
abbrev pub closer_text : List ℕ → ReadSoFar → TextKind → List ℕ
closer_text bytes s k = if is_element s.next then codes ": no comma stands before a closing bracket" else closing_text bytes s.innermost a_closer k

-- of a dot that is no full stop; after a whole term it may be meant as the name of a file
abbrev pub dot_hint : NextPart → TextKind → List ℕ
dot_hint an_ending of_term = codes ": a specification in a file is given by --file"
dot_hint n k = codes ": a full stop has a blank, a comment or the end of the text after it"

-- of a string; it may stand after another
abbrev pub string_hint : NextPart → List ℕ
string_hint an_after = codes ": strings are not joined"
string_hint n = []

-- of what stands there, by how far the text is read
abbrev pub hint_text : List ℕ → ReadSoFar → TextThing → List ℕ → TextKind → List ℕ
hint_text bytes s a_variable_word word k = word_in_quotes (variable_words_text word) word
hint_text bytes s a_reserved_word word k = word_in_quotes (reserved_words_text word) word
hint_text bytes s a_closer word k = closer_text bytes s k
hint_text bytes s an_end word k = closing_text bytes s.innermost an_end k
hint_text bytes s a_stop word k = closing_text bytes s.innermost a_stop k
hint_text bytes s a_dot word k = dot_hint s.next k
hint_text bytes s a_string word k = string_hint s.next
hint_text bytes s a_mark word k = mark_hint s.next word
hint_text bytes s a_byte word k = byte_hint word
hint_text bytes s t word k = thing_hint t

-- ---- the three refusals

-- 2: what may stand there, what does, and how that can be fixed; where it isn't known how far the text is read, what stands there
abbrev pub misplaced_text : List ℕ → Option ReadSoFar → ThingAt → TextKind → List ℕ
misplaced_text bytes None x k = codes ": found " ++ thing_at_text x
misplaced_text bytes (Some s) x k =
    codes ": " ++ next_text s.next (in_tuple s.innermost) k ++ codes " expected, found " ++ thing_at_text x ++ hint_text bytes s x.thing x.bytes k

-- a string is a list
abbrev pub string_note : TextThing → List ℕ
string_note a_string = codes ", which is a list"
string_note t = []

-- 3: what begins a level too many
abbrev pub deep_text : ThingAt → List ℕ
deep_text x = codes ": level 33 begins with " ++ thing_at_text x ++ string_note x.thing

-- so many characters
abbrev pub characters_text : List ℕ → ℕ → List ℕ
characters_text words n = words ++ decimal n ++ codes " characters"

-- a tuple or a list that goes on after its last comma
abbrev pub wide_text : List ℕ → OpenBracket → List ℕ
wide_text bytes b = (if b.is_tuple then codes ": the tuple at " else codes ": the list at ") ++ spot_text bytes b.at ++ codes " goes on after element " ++ decimal (min (b.commas + 1) (2 ^ 64 - 1))

-- the innermost that is open
abbrev pub innermost_text : List ℕ → Option OpenBracket → List ℕ
innermost_text bytes None = []
innermost_text bytes (Some b) = wide_text bytes b

-- where it is known how far the text is read
abbrev pub open_text : List ℕ → Option ReadSoFar → List ℕ
open_text bytes None = []
open_text bytes (Some s) = innermost_text bytes s.innermost

-- 4: what passes a limit: a tuple or a list by its comma, a word by its bytes, what is in quotes by so many characters
abbrev pub large_text : List ℕ → Option ReadSoFar → TextThing → List ℕ → ℕ → List ℕ
large_text bytes s a_comma word n = open_text bytes s
large_text bytes s a_bare_atom word n = characters_text (codes ": the atom has ") (length word)
large_text bytes s a_quoted_atom word n = characters_text (codes ": the atom has ") n
large_text bytes s a_string word n = characters_text (codes ": the string has ") n
large_text bytes s t word n = codes ": found " ++ thing_text t word
