-- Which line is a request to `serve`, and why any other is none (own).
-- Depends on the JSON of RFC 8259, by the kit's `json`, and on UTF-8, by std.
use Rattle.std.specs.Prelude.{ℕ, nat_lt, Bool, false, if◌then◌else◌, List, [], ◌∷◌, length, Option, Some, None, unwrap_or, option_map, option_and_then, Result, Ok, Err, codes}
use Rattle.std.specs.Str.{is_utf8, bytes_eq}
use Rattle.json.specs.Json.{Json, null, boolean, number, string, array, object, Items, no_items, item, Members, no_members, member, document}
use Rattle.json.specs.Find.{as_str, as_array}

-- what is asked for: the words of a command line after the program's name, and what the command reads of standard input
pub record ServeRequest : Type 0 where
  pub command : List (List ℕ)
  pub input : List ℕ

-- why a line has an error in place of an answer
pub data RequestFault : Type 0 where
  -- it has too many bytes
  long_line : RequestFault
  -- it is no JSON, or JSON that is no object
  no_json : RequestFault
  no_object : RequestFault
  -- a member is neither `command` nor `input`, or one of these comes twice
  other_member : RequestFault
  repeated_member : RequestFault
  -- `command` is missing or no array of strings; `input` is no string
  no_command : RequestFault
  no_input : RequestFault
  -- it asks for `serve` itself
  nested_serve : RequestFault
  -- the system refused memory for it, or for its answer
  lacks_memory : RequestFault

-- ---- a line

-- the most bytes that a line may have before its line feed: 8 MiB
abbrev pub longest_request : ℕ
longest_request = 8388608

-- the value of RFC 8259 that a line is, which is a text of UTF-8 (section 8.1); a carriage return at its end is white space (section 2)
abbrev pub line_value : List ℕ → Option Json
line_value line = if is_utf8 line then document line else None

-- ---- values of members

abbrev pub words_in : Items → Option (List (List ℕ))
words_in no_items = Some []
words_in (item v vs) = option_and_then (λ word. option_map (λ words. word ∷ words) (words_in vs)) (as_str v)

-- the strings of an array
abbrev pub command_words : Json → Option (List (List ℕ))
command_words v = option_and_then words_in (as_array v)

-- ---- members

-- what was read of the members so far
pub record RequestParts : Type 0 where
  pub command : Option (List (List ℕ))
  pub input : Option (List ℕ)

abbrev pub no_parts : RequestParts
no_parts = record { command = None; input = None }

-- the value of a member that comes for the first time, or what is wrong with it
abbrev pub only_value : {A : Type 0} → (before now : Option A) → (wrong : RequestFault) → Result A RequestFault
only_value (Some a) now wrong = Err repeated_member
only_value None (Some a) wrong = Ok a
only_value None None wrong = Err wrong

abbrev pub with_command_member : RequestParts → Result (List (List ℕ)) RequestFault → Result RequestParts RequestFault
with_command_member parts (Ok words) = Ok (record { command = Some words; input = parts.input })
with_command_member parts (Err fault) = Err fault

abbrev pub with_input_member : RequestParts → Result (List ℕ) RequestFault → Result RequestParts RequestFault
with_input_member parts (Ok text) = Ok (record { command = parts.command; input = Some text })
with_input_member parts (Err fault) = Err fault

-- the parts with one member more
abbrev pub with_member : RequestParts → List ℕ → Json → Result RequestParts RequestFault
with_member parts name v =
    if bytes_eq name (codes "command") then with_command_member parts (only_value parts.command (command_words v) no_command) else
    if bytes_eq name (codes "input") then with_input_member parts (only_value parts.input (as_str v) no_input) else Err other_member

-- and what comes then, where nothing is wrong
abbrev pub then_parts : (RequestParts → Result RequestParts RequestFault) → Result RequestParts RequestFault → Result RequestParts RequestFault
then_parts next (Ok parts) = next parts
then_parts next (Err fault) = Err fault

-- with these members more, one after another
abbrev pub with_members : Members → RequestParts → Result RequestParts RequestFault
with_members no_members parts = Ok parts
with_members (member name v ms) parts = then_parts (with_members ms) (with_member parts name v)

-- ---- a request

abbrev pub names_serve : List (List ℕ) → Bool
names_serve [] = false
names_serve (word ∷ words) = bytes_eq word (codes "serve")

-- of a command and of its input, which is empty where the member is absent
abbrev pub request_of_parts : (command : Option (List (List ℕ))) → (input : Option (List ℕ)) → Result ServeRequest RequestFault
request_of_parts None input = Err no_command
request_of_parts (Some words) input = if names_serve words then Err nested_serve else Ok (record { command = words; input = unwrap_or input [] })

abbrev pub request_of_all : Result RequestParts RequestFault → Result ServeRequest RequestFault
request_of_all (Ok parts) = request_of_parts parts.command parts.input
request_of_all (Err fault) = Err fault

abbrev pub request_of_json : Json → Result ServeRequest RequestFault
request_of_json null = Err no_object
request_of_json (boolean b) = Err no_object
request_of_json (number s) = Err no_object
request_of_json (string s) = Err no_object
request_of_json (array vs) = Err no_object
request_of_json (object ms) = request_of_all (with_members ms no_parts)

abbrev pub request_of_value : Option Json → Result ServeRequest RequestFault
request_of_value None = Err no_json
request_of_value (Some v) = request_of_json v

-- the one reading of a line: a request, or why it is none
abbrev pub request_read : List ℕ → Result ServeRequest RequestFault
request_read line = if nat_lt longest_request (length line) then Err long_line else request_of_value (line_value line)
