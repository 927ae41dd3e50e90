-- What is promised of requests and answers (own).
-- Depends on both, on line feeds, and on the JSON of RFC 8259, by the kit's `json`.
use Rattle.std.specs.Prelude.{◌≡◌, ◌≢◌, ◌<◌, ◌≤◌, ◌^◌, ℕ, false, List, [], ◌∷◌, length, map, Ok, Err, codes}
use Rattle.std.specs.Str.{IsUtf8}
use Rattle.json.specs.Json.{Json, string, array}
use Rattle.json.specs.Print.{print}
use Rattle.json.specs.Tree.{json_tokens}
use Rattle.def_text.specs.Places.{line_feeds}
use Rattle.def_formats.specs.JsonRows.{object_from, items_from}
use Rattle.def_formats.specs.Laws.{IsReadBack}
use Rattle.def_serve.specs.Requests.{ServeRequest, RequestFault, lacks_memory, longest_request, names_serve, request_read}
use Rattle.def_serve.specs.Answers.{bytes_value, serve_answer_row, serve_error_row}

-- the text of the value has no line feed
abbrev pub IsJsonOnOneLine : Json → Type 0
IsJsonOnOneLine v = line_feeds (print (json_tokens v)) ≡ 0

-- an answer and an error are one line each
abbrev pub AnswerIsALine : Type 0
AnswerIsALine = (status : ℕ) (output errors : List ℕ) → IsJsonOnOneLine (serve_answer_row status output errors)

abbrev pub ErrorIsALine : Type 0
ErrorIsALine = (fault : RequestFault) → IsJsonOnOneLine (serve_error_row fault)

-- which is read as its object
abbrev pub AnswerIsRead : Type 0
AnswerIsRead = (status : ℕ) (output errors : List ℕ) → status < 2 ^ 64 → IsReadBack (serve_answer_row status output errors)

abbrev pub ErrorIsRead : Type 0
ErrorIsRead = (fault : RequestFault) → IsReadBack (serve_error_row fault)

-- what is UTF-8 stands in it as it was written
abbrev pub TextIsKept : Type 0
TextIsKept = (text : List ℕ) → IsUtf8 text → bytes_value text ≡ string text

-- ---- requests

-- {"command":[WORD,..],"input":INPUT}
abbrev pub request_row : ServeRequest → Json
request_row r = object_from ((codes "command", array (items_from (map string r.command))) ∷ (codes "input", string r.input) ∷ [])

-- what a program that writes JSON sends: its text is UTF-8, and not too long
pub record IsSent (r : ServeRequest) (line : List ℕ) : Type 0 where
  pub text : line ≡ print (json_tokens (request_row r))
  pub utf8 : IsUtf8 line
  pub short : length line ≤ longest_request

-- it is read as the request that was meant, unless that is `serve`
abbrev pub RequestIsRead : Type 0
RequestIsRead = (r : ServeRequest) (line : List ℕ) → IsSent r line → names_serve r.command ≡ false → request_read line ≡ Ok r

-- no line is refused for lack of memory alone: that is the system's doing
abbrev pub LineHasMemory : Type 0
LineHasMemory = (line : List ℕ) → request_read line ≢ Err lacks_memory
