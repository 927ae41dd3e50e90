-- A request is read as it was meant, and no line is refused for lack of memory.
use Rattle.std.proofs.Common.{◌≡◌, ◌≢◌, ◌≤◌, ℕ, nat_lt, Bool, true, false, cond, if◌then◌else◌, List, [], ◌∷◌, length, map, Option, Some, None, option_map, Result, Ok, Err, refl, ap, ◌∙◌, arith, codes}
use Rattle.std.specs.Str.{bytes_eq}
use Rattle.std.proofs.lemmas.Str.{is_utf8-from_IsUtf8}
use Rattle.json.specs.Json.{Json, null, boolean, number, string, array, object, Members, no_members, member, document}
use Rattle.json.specs.Find.{as_str}
use Rattle.json.specs.Print.{print}
use Rattle.json.specs.Tree.{json_tokens, items_depth, ItemsHaveNumbers}
use Rattle.json.proofs.Printed.Trees.{document-print}
use Rattle.def_formats.specs.JsonRows.{items_from}
use Rattle.def_serve.specs.Requests.{ServeRequest, RequestFault, long_line, no_command, no_input, nested_serve, lacks_memory, longest_request, line_value, words_in, command_words, RequestParts, no_parts, only_value, with_command_member, with_input_member, with_member, then_parts, with_members, names_serve, request_of_parts, request_of_all, request_of_json, request_of_value}
use Rattle.def_serve.specs.Laws.{request_row, RequestIsRead, LineHasMemory}

-- ---- what is written is read

strings_are_words : (words : List (List ℕ)) → words_in (items_from (map string words)) ≡ Some words
strings_are_words [] = refl
strings_are_words (w ∷ ws) = ap (λ o. option_map (λ words. w ∷ words) o) (strings_are_words ws)

strings_have_numbers : (words : List (List ℕ)) → ItemsHaveNumbers (items_from (map string words))
strings_have_numbers [] = tt
strings_have_numbers (w ∷ ws) = (tt, strings_have_numbers ws)

strings_are_flat : (words : List (List ℕ)) → items_depth (items_from (map string words)) ≡ 0
strings_are_flat [] = refl
strings_are_flat (w ∷ ws) = omega (arith, strings_are_flat ws)

row_is_read : (r : ServeRequest) → document (print (json_tokens (request_row r))) ≡ Some (request_row r)
row_is_read r = document-print (request_row r) (strings_have_numbers r.command, (tt, tt)) (omega (arith, strings_are_flat r.command))

row_is_request : (r : ServeRequest) → names_serve r.command ≡ false → request_of_json (request_row r) ≡ Ok r
row_is_request r e =
    ap (λ o. request_of_all (then_parts (with_members (member (codes "input") (string r.input) no_members)) (with_command_member no_parts (only_value None o no_command)))) (strings_are_words r.command)
    ∙ ap (λ b. if b then Err nested_serve else Ok r) e

short_line : (line : List ℕ) → length line ≤ longest_request → nat_lt longest_request (length line) ≡ false
short_line line short = grind arith

pub request_is_read : RequestIsRead
request_is_read r line sent e =
    ap (λ b. if b then Err long_line else request_of_value (line_value line)) (short_line line sent.short)
    ∙ ap (λ b. request_of_value (if b then document line else None)) (is_utf8-from_IsUtf8 line sent.utf8)
    ∙ ap (λ text. request_of_value (document text)) sent.text
    ∙ ap request_of_value (row_is_read r)
    ∙ row_is_request r e

-- ---- memory

-- the reason is another than lack of memory, where there is one
abbrev IsOfLine : {A : Type 0} → Result A RequestFault → Type 0
IsOfLine r = r ≢ Err lacks_memory

either_of_line : {A : Type 0} → (b : Bool) (one other : Result A RequestFault) → IsOfLine one → IsOfLine other → IsOfLine (cond b one other)
either_of_line true one other p q = p
either_of_line false one other p q = q

of_fault : {A : Type 0} → (fault : RequestFault) → fault ≢ lacks_memory → IsOfLine {A = A} (Err fault)
of_fault fault h = λ e. h (cc)

only_of_line : {A : Type 0} → (before now : Option A) (wrong : RequestFault) → wrong ≢ lacks_memory → IsOfLine (only_value before now wrong)
only_of_line (Some a) now wrong h = λ e. cc
only_of_line None (Some a) wrong h = λ e. cc
only_of_line None None wrong h = of_fault wrong h

command_of_line : (parts : RequestParts) (r : Result (List (List ℕ)) RequestFault) → IsOfLine r → IsOfLine (with_command_member parts r)
command_of_line parts (Ok words) h = λ e. cc
command_of_line parts (Err fault) h = of_fault fault (λ e. h (ap Err e))

input_of_line : (parts : RequestParts) (r : Result (List ℕ) RequestFault) → IsOfLine r → IsOfLine (with_input_member parts r)
input_of_line parts (Ok text) h = λ e. cc
input_of_line parts (Err fault) h = of_fault fault (λ e. h (ap Err e))

member_of_line : (parts : RequestParts) (name : List ℕ) (v : Json) → IsOfLine (with_member parts name v)
member_of_line parts name v =
    either_of_line (bytes_eq name (codes "command")) _ _
    (command_of_line parts _ (only_of_line parts.command (command_words v) no_command (λ e. cc)))
    (either_of_line (bytes_eq name (codes "input")) _ _ (input_of_line parts _ (only_of_line parts.input (as_str v) no_input (λ e. cc))) (λ e. cc))

then_of_line : (next : RequestParts → Result RequestParts RequestFault) (r : Result RequestParts RequestFault) → ((p : RequestParts) → IsOfLine (next p)) → IsOfLine r → IsOfLine (then_parts next r)
then_of_line next (Ok parts) h own = h parts
then_of_line next (Err fault) h own = own

members_of_line : (ms : Members) (parts : RequestParts) → IsOfLine (with_members ms parts)
members_of_line no_members parts = λ e. cc
members_of_line (member name v ms) parts = then_of_line (with_members ms) (with_member parts name v) (members_of_line ms) (member_of_line parts name v)

parts_of_line : (command : Option (List (List ℕ))) (input : Option (List ℕ)) → IsOfLine (request_of_parts command input)
parts_of_line None input = λ e. cc
parts_of_line (Some words) input = either_of_line (names_serve words) _ _ (λ e. cc) (λ e. cc)

all_of_line : (r : Result RequestParts RequestFault) → IsOfLine r → IsOfLine (request_of_all r)
all_of_line (Ok parts) h = parts_of_line parts.command parts.input
all_of_line (Err fault) h = of_fault fault (λ e. h (ap Err e))

json_of_line : (v : Json) → IsOfLine (request_of_json v)
json_of_line null = λ e. cc
json_of_line (boolean b) = λ e. cc
json_of_line (number s) = λ e. cc
json_of_line (string s) = λ e. cc
json_of_line (array vs) = λ e. cc
json_of_line (object ms) = all_of_line (with_members ms no_parts) (members_of_line ms no_parts)

value_of_line : (o : Option Json) → IsOfLine (request_of_value o)
value_of_line None = λ e. cc
value_of_line (Some v) = json_of_line v

pub line_has_memory : LineHasMemory
line_has_memory line = either_of_line (nat_lt longest_request (length line)) _ _ (λ e. cc) (value_of_line (line_value line))
