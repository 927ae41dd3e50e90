-- What `serve` writes for a line: the answer to a request, or an error (own).
-- Depends on requests, and on the JSON of RFC 8259, by the kit's `json`.
use Rattle.std.specs.Prelude.{ℕ, List, [], ◌∷◌, codes}
use Rattle.std.specs.Str.Lossy.{utf8_lossy}
use Rattle.json.specs.Json.{Json, string}
use Rattle.def_formats.specs.JsonRows.{number_value, object_from, json_line}
use Rattle.def_serve.specs.Requests.{RequestFault, long_line, no_json, no_object, other_member, repeated_member, no_command, no_input, nested_serve, lacks_memory}

-- bytes as a string; those that are no UTF-8 are replaced, as in the words of a command line
abbrev pub bytes_value : List ℕ → Json
bytes_value bytes = string (utf8_lossy bytes)

-- {"status":STATUS,"output":OUTPUT,"errors":ERRORS}
abbrev pub serve_answer_row : (status : ℕ) (output errors : List ℕ) → Json
serve_answer_row status output errors =
    object_from ((codes "status", number_value status) ∷ (codes "output", bytes_value output) ∷ (codes "errors", bytes_value errors) ∷ [])

-- the line of a command that ended with a status, and wrote an output to standard output and errors to standard error
abbrev pub serve_answer : (status : ℕ) (output errors : List ℕ) → List ℕ
serve_answer status output errors = json_line (serve_answer_row status output errors)

abbrev pub request_fault_text : RequestFault → List ℕ
request_fault_text long_line = codes "the line has more than 8388608 bytes"
request_fault_text no_json = codes "the line is no JSON"
request_fault_text no_object = codes "the line is no JSON object"
request_fault_text other_member = codes "a member is neither command nor input"
request_fault_text repeated_member = codes "a member comes twice"
request_fault_text no_command = codes "command is missing, or no array of strings"
request_fault_text no_input = codes "input is no string"
request_fault_text nested_serve = codes "serve can't be asked for serve"
request_fault_text lacks_memory = codes "fault memory"

-- {"error":REASON}
abbrev pub serve_error_row : RequestFault → Json
serve_error_row fault = object_from ((codes "error", string (request_fault_text fault)) ∷ [])

abbrev pub serve_error : RequestFault → List ℕ
serve_error fault = json_line (serve_error_row fault)
