-- Members that are written one after the other.
use Rattle.std.proofs.Common.{◌≡◌, ◌∙◌, ℕ, Bool, true, false, if◌then◌else◌, drop, List, [], ◌∷◌, ◌++◌, Result, Ok, Err, refl, sym, ap, append-nil, append_assoc}
use Rattle.json.specs.Json.{Json}
use Rattle.std.specs.Prelude.{nat_eq, codes}
use Rattle.std.specs.Str.{bytes_eq}
use Rattle.std.specs.List.{starts_with}
use Rattle.json.specs.Print.{print}
use Rattle.json.specs.Token.{Token, key, begin_object, end_object}
use Rattle.json.specs.Tree.{json_tokens, members_tokens}
use Rattle.json.specs.Written.{Written}
use Rattle.def_formats.specs.Lines.{before_byte, past_byte}
use Rattle.def_formats.specs.JsonRows.{text_value, numeral_value, members_from, object_from, json_line, why_members, arrow_members, outside_members, mark_members, account_members, front_name, past_name, made_row}
use Rattle.tn_formats.specs.Tokens.{GainsTokens, AddsTokens, text_member, numeral_member, move_tokens, tokens_of_members}

-- what is written after some tokens is written after both
pub adds_after : {T E : Type 0} (r : Result T E) (a b c : Written) (ts us : List Token) → GainsTokens a b ts → AddsTokens r b c us → AddsTokens r a c (ts ++ us)
adds_after (Ok x) a b c ts us g h = record { tokens = h.tokens ∙ ap (λ vs. vs ++ us) g.tokens ∙ append_assoc a.tokens ts us; before = h.before ∙ g.before }
adds_after (Err e) a b c ts us g h = tt

pub gains_after : (a b c : Written) (ts us : List Token) → GainsTokens a b ts → GainsTokens b c us → GainsTokens a c (ts ++ us)
gains_after a b c ts us g h = record { tokens = h.tokens ∙ ap (λ vs. vs ++ us) g.tokens ∙ append_assoc a.tokens ts us; before = h.before ∙ g.before }

-- one member that is a text
pub text_alone : (name text : List ℕ) → text_member name text ≡ tokens_of_members ((name, text_value text) ∷ [])
text_alone name text = sym (append-nil (text_member name text))

-- the tokens of members, with the closing bracket
pub members_closed : (ms : List (List ℕ × Json)) → members_tokens (members_from ms) ≡ tokens_of_members ms ++ end_object ∷ []
members_closed [] = refl
members_closed (m ∷ ms) = ap (λ ts. key m.0 ∷ (json_tokens m.1 ++ ts)) (members_closed ms) ∙ ap (λ ts. key m.0 ∷ ts) (sym (append_assoc (json_tokens m.1) (tokens_of_members ms) (end_object ∷ [])))

-- a row whose object was begun, and gained some tokens and those of some members
pub row_written : (begun w : Written) (front : List Token) (ms : List (List ℕ × Json)) (v : Json) → begun.before ≡ [] → begun.tokens ≡ begin_object ∷ [] → GainsTokens begun w (front ++ tokens_of_members ms)
    → begin_object ∷ (front ++ members_tokens (members_from ms)) ≡ json_tokens v → (w.before ++ print (w.tokens ++ end_object ∷ [])) ++ 10 ∷ [] ≡ json_line v
row_written begun w front ms v empty begins g is =
    let closed : (begin_object ∷ (front ++ tokens_of_members ms)) ++ end_object ∷ [] ≡ json_tokens v =
    ap (λ ts. begin_object ∷ ts) (append_assoc front (tokens_of_members ms) (end_object ∷ []) ∙ ap (λ ts. front ++ ts) (sym (members_closed ms))) ∙ is in
    let tokens : w.tokens ++ end_object ∷ [] ≡ json_tokens v = ap (λ ts. ts ++ end_object ∷ []) (g.tokens ∙ ap (λ ts. ts ++ (front ++ tokens_of_members ms)) begins) ∙ closed in
    (λ i. ((g.before ∙ empty) i ++ print (tokens i)) ++ 10 ∷ [])

-- a trace message after the arrow
pub arrow_alone : (text : List ℕ) → starts_with nat_eq text (codes "no message: ") ≡ false → text_member (codes "trace_message") text ≡ tokens_of_members (arrow_members text)
arrow_alone text e = text_alone (codes "trace_message") text ∙ ap (λ (b : Bool). tokens_of_members (if b then why_members (drop 12 text) else (codes "trace_message", text_value text) ∷ [])) (sym e)

-- of the first, the second and the fourth of some tests that one holds, and none before it
first_of : {X : Type 0} (a : Bool) (x y : X) → a ≡ true → x ≡ (if a then x else y)
first_of a x y h = ap (λ (p : Bool). if p then x else y) (sym h)

second_of : {X : Type 0} (a b : Bool) (x y z : X) → a ≡ false → b ≡ true → y ≡ (if a then x else (if b then y else z))
second_of a b x y z h k = (λ i. if sym h i then x else (if sym k i then y else z))

fourth_of : {X : Type 0} (a b c d : Bool) (x y z u v : X) → a ≡ false → b ≡ false → c ≡ false → d ≡ true → u ≡ (if a then x else (if b then y else (if c then z else (if d then u else v))))
fourth_of a b c d x y z u v h k l m = (λ i. if sym h i then x else (if sym k i then y else (if sym l i then z else (if sym m i then u else v))))

-- what a running node lacks
pub lacks_alone : (line : List ℕ) → starts_with nat_eq line (codes "- ") ≡ true → text_member (codes "node_lacks") (drop 2 line) ≡ tokens_of_members (outside_members line)
lacks_alone line h =
    let members : (codes "node_lacks", text_value (drop 2 line)) ∷ [] ≡ outside_members line = first_of _ _ _ h in
    text_alone (codes "node_lacks") (drop 2 line) ∙ ap tokens_of_members members

-- the mark of a call for exceptions, and that for returns alone
pub exceptions_alone : (line : List ℕ) → bytes_eq line (codes "the call is marked") ≡ false → bytes_eq line (codes "the call is marked for exceptions") ≡ true
    → text_member (codes "mark") (codes "set for exceptions") ≡ tokens_of_members (mark_members line)
exceptions_alone line h k =
    let members : (codes "mark", text_value (codes "set for exceptions")) ∷ [] ≡ mark_members line = second_of _ _ _ _ _ h k in
    text_alone (codes "mark") (codes "set for exceptions") ∙ ap tokens_of_members members

pub returns_alone : (line : List ℕ) → bytes_eq line (codes "the call is marked") ≡ false → bytes_eq line (codes "the call is marked for exceptions") ≡ false → bytes_eq line (codes "the call has no mark") ≡ false
    → bytes_eq line (codes "the call is marked for returns alone") ≡ true → text_member (codes "mark") (codes "for returns alone") ≡ tokens_of_members (mark_members line)
returns_alone line h k l m =
    let members : (codes "mark", text_value (codes "for returns alone")) ∷ [] ≡ mark_members line = fourth_of _ _ _ _ _ _ _ _ _ h k l m in
    text_alone (codes "mark") (codes "for returns alone") ∙ ap tokens_of_members members

-- what a session makes of a move, by its parts
abbrev made_from : (number pick event name said : List ℕ) → Json
made_from number pick event name said =
    object_from ((codes "move", numeral_value number) ∷ (codes "pick", numeral_value pick) ∷ (codes "event", text_value event) ∷ (codes "session", text_value name) ∷ (codes "line", text_value said) ∷ account_members said)

abbrev pub made_front : (number pick event name said : List ℕ) → List Token
made_front number pick event name said = move_tokens number pick event ++ (text_member (codes "session") name ++ text_member (codes "line") said)

in_a_row : (a b c d e f : List Token) → (((a ++ b) ++ c) ++ (d ++ e)) ++ f ≡ a ++ (b ++ (c ++ (d ++ (e ++ f))))
in_a_row a b c d e f = simp append_assoc

made_tokens : (number pick event name said : List ℕ) → begin_object ∷ (made_front number pick event name said ++ members_tokens (members_from (account_members said))) ≡ json_tokens (made_from number pick event name said)
made_tokens number pick event name said =
    ap (λ ts. begin_object ∷ ts)
    (in_a_row (numeral_member (codes "move") number) (numeral_member (codes "pick") pick) (text_member (codes "event") event) (text_member (codes "session") name) (text_member (codes "line") said) (members_tokens (members_from (account_members said))))

pub made_is : (move line number pick event rest name said : List ℕ) → number ≡ before_byte 32 move → pick ≡ before_byte 32 (past_byte 32 move) → event ≡ past_byte 32 (past_byte 32 move) → rest ≡ drop 2 line → name ≡ front_name rest → said ≡ past_name rest
    → begin_object ∷ (made_front number pick event name said ++ members_tokens (members_from (account_members said))) ≡ json_tokens (made_row move line)
made_is move line number pick event rest name said h1 h2 h3 h4 h5 h6 =
    made_tokens number pick event name said ∙ (λ i. json_tokens (made_from (h1 i) (h2 i) (h3 i) ((h5 ∙ ap front_name h4) i) ((h6 ∙ ap past_name h4) i)))
