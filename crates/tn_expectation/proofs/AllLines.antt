-- The lines of a text that were found one after another, the last one first.
use Rattle.std.proofs.Common.{◌≡◌, ◌∙◌, sym, ap, ℕ, List, [], ◌∷◌, ◌++◌, length, reverse, refl, arith}
use Rattle.std.specs.Borrow.{Bor}
use Rattle.std.proofs.lemmas.List.{append-nil, map-append, reverse-append}
use Rattle.def_formats.specs.Lines.{text_lines}
use Rattle.tn_alignment.specs.Tables.{line_texts}

texts_reversed : (lines : List (Bor (List ℕ))) → line_texts (reverse lines) ≡ reverse (line_texts lines)
texts_reversed [] = refl
texts_reversed (l ∷ ls) =
    ap line_texts (reverse-append (l ∷ []) ls)
    ∙ map-append (λ x. x.now) (reverse ls) (l ∷ [])
    ∙ ap (λ xs. xs ++ l.now ∷ []) (texts_reversed ls)
    ∙ sym (reverse-append (l.now ∷ []) (line_texts ls))

none_left : (rest : List ℕ) → length rest ≡ 0 → text_lines rest ≡ []
none_left [] e = refl
none_left (c ∷ cs) e = absurd (omega arith)

-- where no bytes are left, they are all lines
pub all_lines : (lines after : List (Bor (List ℕ))) (rest text : List ℕ) → length rest ≡ 0 → line_texts lines ++ text_lines rest ≡ text_lines text
    → after ≡ reverse lines → line_texts after ≡ reverse (text_lines text)
all_lines lines after rest text none so is =
    ap line_texts is
    ∙ texts_reversed lines
    ∙ ap reverse (sym (append-nil (line_texts lines)) ∙ ap (λ ls. line_texts lines ++ ls) (sym (none_left rest none)) ∙ so)
