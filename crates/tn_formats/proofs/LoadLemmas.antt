-- Rows of a summary that are written one after the other.
use Rattle.std.proofs.Common.{◌≡◌, ◌∙◌, ℕ, List, [], ◌∷◌, ◌++◌, sym, ap, append_assoc, append-nil}
use Rattle.std.proofs.lemmas.List.Concat.{flat_map-append}
use Rattle.json.specs.Json.{Json}
use Rattle.def_formats.specs.JsonRows.{json_line, json_lines}

pub one_row : (v : Json) → json_lines (v ∷ []) ≡ json_line v
one_row v = append-nil (json_line v)

pub after_rows : (old mid new : List ℕ) (us vs : List Json) → mid ≡ old ++ json_lines us → new ≡ mid ++ json_lines vs → new ≡ old ++ json_lines (us ++ vs)
after_rows old mid new us vs h k =
    k ∙ ap (λ l. l ++ json_lines vs) h ∙ append_assoc old (json_lines us) (json_lines vs) ∙ ap (λ l. old ++ l) (sym (flat_map-append json_line us vs))

last_rows : (old new : List ℕ) (us : List Json) → new ≡ old ++ json_lines us → new ≡ old ++ json_lines (us ++ [])
last_rows old new us h = h ∙ ap (λ vs. old ++ json_lines vs) (sym (append-nil us))

pub three_rows : (old l1 l2 l3 : List ℕ) (a b c : List Json) → l1 ≡ old ++ json_lines a → l2 ≡ l1 ++ json_lines b → l3 ≡ l2 ++ json_lines c → l3 ≡ old ++ json_lines (a ++ (b ++ (c ++ [])))
three_rows old l1 l2 l3 a b c h1 h2 h3 = after_rows old l1 l3 a (b ++ (c ++ [])) h1 (after_rows l1 l2 l3 b (c ++ []) h2 (last_rows l2 l3 c h3))

pub four_rows : (old l1 l2 l3 l4 : List ℕ) (a b c d : List Json) → l1 ≡ old ++ json_lines a → l2 ≡ l1 ++ json_lines b → l3 ≡ l2 ++ json_lines c → l4 ≡ l3 ++ json_lines d
    → l4 ≡ old ++ json_lines (a ++ (b ++ (c ++ (d ++ []))))
four_rows old l1 l2 l3 l4 a b c d h1 h2 h3 h4 = after_rows old l1 l4 a (b ++ (c ++ (d ++ []))) h1 (three_rows l1 l2 l3 l4 b c d h2 h3 h4)

pub six_rows : (old l1 l2 l3 l4 l5 l6 : List ℕ) (a b c d e f : List Json) → l1 ≡ old ++ json_lines a → l2 ≡ l1 ++ json_lines b → l3 ≡ l2 ++ json_lines c → l4 ≡ l3 ++ json_lines d → l5 ≡ l4 ++ json_lines e → l6 ≡ l5 ++ json_lines f
    → l6 ≡ old ++ json_lines (a ++ b ++ c ++ d ++ e ++ f)
six_rows old l1 l2 l3 l4 l5 l6 a b c d e f h1 h2 h3 h4 h5 h6 =
    after_rows old l5 l6 (a ++ b ++ c ++ d ++ e) f
    (after_rows old l4 l5 (a ++ b ++ c ++ d) e (after_rows old l3 l4 (a ++ b ++ c) d (after_rows old l2 l3 (a ++ b) c (after_rows old l1 l2 a b h1 h2) h3) h4) h5) h6
