-- What a line is read as, by its length, its bytes and its value.
use Rattle.std.proofs.Common.{◌≡◌, ◌∙◌, ◌<◌, ◌≤◌, ℕ, Bool, true, false, if◌then◌else◌, nat_lt, List, length, Some, None, Err, refl, ap, arith}
use Rattle.std.specs.Str.{IsUtf8, is_utf8}
use Rattle.std.proofs.lemmas.Str.{IsUtf8-from_is_utf8, is_utf8-from_IsUtf8}
use Rattle.json.specs.Json.{Json, document}
use Rattle.def_serve.specs.Requests.{long_line, no_json, longest_request, line_value, request_of_json, request_of_value, request_read}

-- of a line that is too long, or isn't
pub long_line_read : (line : List ℕ) → longest_request < length line → request_read line ≡ Err long_line
long_line_read line long =
    let is : nat_lt longest_request (length line) ≡ true = grind arith in
    ap (λ b. if b then Err long_line else request_of_value (line_value line)) is

short_line_read : (line : List ℕ) → length line ≤ longest_request → request_read line ≡ request_of_value (line_value line)
short_line_read line short =
    let is : nat_lt longest_request (length line) ≡ false = grind arith in
    ap (λ b. if b then Err long_line else request_of_value (line_value line)) is

-- of a text that is a value, and of bytes that are none
pub value_read : (line : List ℕ) (j : Json) → length line ≤ longest_request → IsUtf8 line → document line ≡ Some j → request_read line ≡ request_of_json j
value_read line j short text is =
    short_line_read line short
    ∙ ap (λ b. request_of_value (if b then document line else None)) (is_utf8-from_IsUtf8 line text)
    ∙ ap request_of_value is

pub no_value_read : (line : List ℕ) → length line ≤ longest_request → (IsUtf8 line → document line ≡ None) → request_read line ≡ Err no_json
no_value_read line short none = short_line_read line short ∙ ap request_of_value (by_test (is_utf8 line) refl)
  where
    by_test : (b : Bool) → is_utf8 line ≡ b → (if b then document line else None) ≡ None
    by_test true e = none (IsUtf8-from_is_utf8 line e)
    by_test false e = refl
