-- A line without the blanks at its end.
use Rattle.std.proofs.Common.{◌≡◌, ◌∙◌, ℕ, ◌+◌, ◌-◌, ◌<◌, ◌≤◌, Bool, true, false, ◌&&◌, List, [], ◌∷◌, ◌++◌, length, get_or, take, drop, refl, ap, sym, arith, append_assoc}
use Rattle.std.proofs.lemmas.List.{take_more, drop_more, take-append-drop}
use Rattle.def_text.specs.Tokens.{is_blank, all_are}
use Rattle.def_trace_text.specs.Lines.{without_blanks}

pub blanks_alone : (line : List ℕ) → all_are is_blank line ≡ true → without_blanks line ≡ []
blanks_alone [] h = refl
blanks_alone (b ∷ bs) h = rw h refl

and_false : (a : Bool) → a && false ≡ false
and_false true = refl
and_false false = refl

not_all : (front : List ℕ) (last : ℕ) (back : List ℕ) → is_blank last ≡ false → all_are is_blank (front ++ last ∷ back) ≡ false
not_all [] last back e = rw e refl
not_all (b ∷ front) last back e = rw (not_all front last back e) (and_false (is_blank b))

-- what comes up to the last byte that is no blank is left
content_left : (front : List ℕ) (last : ℕ) (back : List ℕ) → is_blank last ≡ false → all_are is_blank back ≡ true → without_blanks (front ++ last ∷ back) ≡ front ++ last ∷ []
content_left [] last back e h = rw (not_all [] last back e, blanks_alone back h) refl
content_left (b ∷ front) last back e h = rw (not_all (b ∷ front) last back e, content_left front last back e h) refl

-- the byte before the place is no blank, and those after it are blanks
pub left_before : (line : List ℕ) (end : ℕ) → 0 < end → end ≤ length line → is_blank (get_or line (end - 1) 0) ≡ false → all_are is_blank (drop end line) ≡ true → without_blanks line ≡ take end line
left_before line end some within e h =
    let n : end - 1 + 1 ≡ end = omega (arith, some) in
    let last = get_or line (end - 1) 0 in
    let front : take end line ≡ take (end - 1) line ++ last ∷ [] = ap (λ k. take k line) (sym n) ∙ take_more line (end - 1) 0 (omega (arith, some, within)) in
    let whole : line ≡ take (end - 1) line ++ last ∷ drop end line = sym (take-append-drop end line) ∙ ap (λ t. t ++ drop end line) front ∙ append_assoc (take (end - 1) line) (last ∷ []) (drop end line) in
    ap without_blanks whole ∙ content_left (take (end - 1) line) last (drop end line) e h ∙ sym front

-- one blank more
pub one_blank_more : (line : List ℕ) (end : ℕ) → 0 < end → end ≤ length line → is_blank (get_or line (end - 1) 0) ≡ true → all_are is_blank (drop end line) ≡ true → all_are is_blank (drop (end - 1) line) ≡ true
one_blank_more line end some within e h =
    let n : end - 1 + 1 ≡ end = omega (arith, some) in
    let more : drop (end - 1) line ≡ get_or line (end - 1) 0 ∷ drop end line = drop_more line (end - 1) 0 (omega (arith, some, within)) ∙ ap (λ k. get_or line (end - 1) 0 ∷ drop k line) n in
    rw (more, e, h) refl

-- no byte is left
pub none_left : (line : List ℕ) → all_are is_blank (drop 0 line) ≡ true → without_blanks line ≡ []
none_left line h = blanks_alone line h
