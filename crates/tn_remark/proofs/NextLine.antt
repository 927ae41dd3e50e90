-- One line more.
use Rattle.std.proofs.Common.{◌≡◌, ◌∙◌, ℕ, suc, ◌+◌, ◌<◌, List, ◌∷◌, ◌++◌, drop, length, get_or, slice_get, Option, sym, ap, append_assoc, arith}
use Rattle.std.proofs.lemmas.List.{drop_more}
use Rattle.std.specs.declared.vec.Vec.{Vec}
use Rattle.tn_remark.specs.TextLines.{line_of_text, lines_of_texts, text_seen, texts_seen}

-- the first of some lines is that of the first command
first_line : {A : Type 0} (name bytes starts : List ℕ) (k n : ℕ) (t : Option (Vec ℕ A)) (ts : List (Option (Vec ℕ A))) → n ≡ suc k
    → line_of_text name bytes (slice_get starts k) n (text_seen t) ++ lines_of_texts name bytes starts n (texts_seen ts) ≡ lines_of_texts name bytes starts k (texts_seen (t ∷ ts))
first_line name bytes starts k n t ts next = ap (λ m. line_of_text name bytes (slice_get starts k) m (text_seen t) ++ lines_of_texts name bytes starts m (texts_seen ts)) next

-- the line of the command at a place is the first of those from there on
pub next_line : {A : Type 0} (name bytes starts all before after : List ℕ) (start : Option ℕ) (k : ℕ) (ts : List (Option (Vec ℕ A))) (t : Option (Vec ℕ A)) → k < length ts → t ≡ get_or ts k t → start ≡ slice_get starts k
    → after ≡ before ++ line_of_text name bytes start (k + 1) (text_seen t) → before ++ lines_of_texts name bytes starts k (texts_seen (drop k ts)) ≡ all → after ++ lines_of_texts name bytes starts (k + 1) (texts_seen (drop (k + 1) ts)) ≡ all
next_line {A} name bytes starts all before after start k ts t below is begins written goes =
    let rest : List (Option (Vec ℕ A)) = drop (k + 1) ts in
    let later : List ℕ = lines_of_texts name bytes starts (k + 1) (texts_seen rest) in
    let here : line_of_text name bytes start (k + 1) (text_seen t) ++ later ≡ lines_of_texts name bytes starts k (texts_seen (drop k ts)) =
    ap (λ b. line_of_text name bytes b (k + 1) (text_seen t) ++ later) begins ∙ first_line name bytes starts k (k + 1) t rest (omega arith)
    ∙ ap (λ u. lines_of_texts name bytes starts k (texts_seen (u ∷ rest))) is ∙ ap (λ us. lines_of_texts name bytes starts k (texts_seen us)) (sym (drop_more ts k t below))
    in
    ap (λ l. l ++ later) written ∙ append_assoc before (line_of_text name bytes start (k + 1) (text_seen t)) later ∙ ap (λ l. before ++ l) here ∙ goes
