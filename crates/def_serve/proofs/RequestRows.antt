-- Lines, worked out by hand: what is read of them, and what is written for them.
use Rattle.std.proofs.Common.{◌≡◌, [], ◌∷◌, Ok, Err, codes, refl}
use Rattle.std.specs.Fmt.{digits}
use Rattle.std.specs.Str.{is_utf8, chars}
use Rattle.std.specs.Str.Lossy.{utf8_lossy, utf8_valid_len, utf8_error_len}
use Rattle.json.specs.Json.{string}
use Rattle.json.proofs.OnLiterals.{json_on_literals}
use Rattle.def_serve.specs.Requests.{no_json, no_object, other_member, repeated_member, no_command, no_input, nested_serve, request_read}
use Rattle.def_serve.specs.Answers.{bytes_value, serve_answer, serve_error}

-- ---- what is read

-- the input is empty where it is absent; a carriage return may be at the end
version_asked : request_read (codes "{\"command\":[\"--version\"]}\r") ≡ Ok (record { command = codes "--version" ∷ []; input = [] })
unfolding json_on_literals is_utf8 chars
version_asked = refl

fun_asked : request_read (codes "{\"input\":\"f\\n\",\"command\":[\"fun\",\"-\"]}") ≡ Ok (record { command = codes "fun" ∷ codes "-" ∷ []; input = codes "f\n" })
unfolding json_on_literals is_utf8 chars
fun_asked = refl

-- each reason
half_object : request_read (codes "{") ≡ Err no_json
unfolding json_on_literals is_utf8 chars
half_object = refl

byte_of_no_text : request_read (34 ∷ 255 ∷ 34 ∷ []) ≡ Err no_json
unfolding json_on_literals is_utf8 chars
byte_of_no_text = refl

array_asked : request_read (codes "[\"fun\"]") ≡ Err no_object
unfolding json_on_literals is_utf8 chars
array_asked = refl

third_member : request_read (codes "{\"status\":0}") ≡ Err other_member
unfolding json_on_literals is_utf8 chars
third_member = refl

two_inputs : request_read (codes "{\"input\":\"\",\"input\":\"\"}") ≡ Err repeated_member
unfolding json_on_literals is_utf8 chars
two_inputs = refl

nothing_asked : request_read (codes "{}") ≡ Err no_command
unfolding json_on_literals is_utf8 chars
nothing_asked = refl

number_asked : request_read (codes "{\"command\":[1],\"input\":2}") ≡ Err no_command
unfolding json_on_literals is_utf8 chars
number_asked = refl

number_given : request_read (codes "{\"input\":2,\"command\":[1]}") ≡ Err no_input
unfolding json_on_literals is_utf8 chars
number_given = refl

serve_asked : request_read (codes "{\"command\":[\"serve\"]}") ≡ Err nested_serve
unfolding json_on_literals is_utf8 chars
serve_asked = refl

-- ---- what is written

version_answer : serve_answer 0 (codes "tracenode\t1\n") (codes "\"\n") ≡ codes "{\"status\":0,\"output\":\"tracenode\\t1\\n\",\"errors\":\"\\\"\\n\"}\n"
unfolding digits json_on_literals utf8_lossy utf8_valid_len utf8_error_len is_utf8 chars
version_answer = refl

-- U+FFFD in the place of a byte
replaced_byte : bytes_value (97 ∷ 255 ∷ 98 ∷ []) ≡ string (97 ∷ 239 ∷ 191 ∷ 189 ∷ 98 ∷ [])
unfolding json_on_literals utf8_lossy utf8_valid_len utf8_error_len is_utf8 chars
replaced_byte = refl

nested_error : serve_error nested_serve ≡ codes "{\"error\":\"serve can't be asked for serve\"}\n"
unfolding json_on_literals
nested_error = refl
