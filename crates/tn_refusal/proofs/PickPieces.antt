-- The pieces of a text of picks, byte by byte.
use Rattle.std.proofs.Common.{◌≡◌, ◌≢◌, ◌∙◌, ℕ, suc, ◌+◌, ◌-◌, ◌<◌, ◌≤◌, ◌==◌, true, false, List, [], ◌∷◌, ◌++◌, length, length-drop, get_or, take, drop, Option, Some, None, if◌then◌else◌, refl, sym, ap, ap₂, arith, add-one}
use Rattle.std.proofs.lemmas.Bool.Decides.{nat_tests}
use Rattle.std.proofs.lemmas.List.{drop_more, drop_all, take_more, get_or-drop}
use Rattle.std.specs.Option.{option_or}
use Rattle.def_wording.specs.PickTexts.{WrongPick, wrong_piece, first_wrong_piece, pieces_from}

-- the piece from one offset to another
abbrev pub piece_between : List ℕ → ℕ → ℕ → List ℕ
piece_between text from i = take (i - from) (drop from text)

-- what the pieces from an offset on have is what all have
abbrev pub PiecesSo : List ℕ → ℕ → ℕ → ℕ → Type 0
PiecesSo text number from i = first_wrong_piece number (pieces_from (piece_between text from i) (drop i text)) ≡ first_wrong_piece 1 (pieces_from [] text)

is_space : (b : ℕ) → b ≡ 32 → (b == 32) ≡ true
is_space b e = grind (arith, nat_tests)

is_none : (b : ℕ) → b ≢ 32 → (b == 32) ≡ false
is_none b e = grind (arith, nat_tests)

at_space : (front text : List ℕ) (i : ℕ) → i < length text → get_or text i 0 ≡ 32 → pieces_from front (drop i text) ≡ front ∷ pieces_from [] (drop (i + 1) text)
at_space front text i below is =
    let b = get_or text i 0 in
    ap (pieces_from front) (drop_more text i 0 below)
    ∙ ap (λ t. if t then front ∷ pieces_from [] (drop (i + 1) text) else pieces_from (front ++ b ∷ []) (drop (i + 1) text)) (is_space b is)

at_other : (front text : List ℕ) (i : ℕ) → i < length text → get_or text i 0 ≢ 32 → pieces_from front (drop i text) ≡ pieces_from (front ++ get_or text i 0 ∷ []) (drop (i + 1) text)
at_other front text i below other =
    let b = get_or text i 0 in
    ap (pieces_from front) (drop_more text i 0 below)
    ∙ ap (λ t. if t then front ∷ pieces_from [] (drop (i + 1) text) else pieces_from (front ++ b ∷ []) (drop (i + 1) text)) (is_none b other)

pub wrong_here : (text : List ℕ) (n from i : ℕ) (x : WrongPick) → i < length text → get_or text i 0 ≡ 32 → Some x ≡ wrong_piece n (piece_between text from i) → PiecesSo text n from i → Some x ≡ first_wrong_piece 1 (pieces_from [] text)
wrong_here text n from i x below is found so_far =
    sym (sym so_far ∙ ap (first_wrong_piece n) (at_space (piece_between text from i) text i below is)
    ∙ ap (λ o. option_or o (first_wrong_piece (suc n) (pieces_from [] (drop (i + 1) text)))) (sym found))

no_bytes_yet : (text : List ℕ) (i : ℕ) → piece_between text (i + 1) (i + 1) ≡ []
no_bytes_yet text i = let none : (i + 1) - (i + 1) ≡ 0 = omega arith in ap (λ k. take k (drop (i + 1) text)) none

pub right_here : (text : List ℕ) (n m from i : ℕ) → i < length text → get_or text i 0 ≡ 32 → m ≡ n + 1 → None ≡ wrong_piece n (piece_between text from i) → PiecesSo text n from i → PiecesSo text m (i + 1) (i + 1)
right_here text n m from i below is next right so_far =
    ap (λ k. first_wrong_piece k (pieces_from (piece_between text (i + 1) (i + 1)) (drop (i + 1) text))) (next ∙ add-one n)
    ∙ ap (λ p. first_wrong_piece (suc n) (pieces_from p (drop (i + 1) text))) (no_bytes_yet text i)
    ∙ ap (λ o. option_or o (first_wrong_piece (suc n) (pieces_from [] (drop (i + 1) text)))) right
    ∙ sym (ap (first_wrong_piece n) (at_space (piece_between text from i) text i below is)) ∙ so_far

one_byte_more : (text : List ℕ) (from i : ℕ) → from ≤ i → i < length text → piece_between text from (i + 1) ≡ piece_between text from i ++ get_or text i 0 ∷ []
one_byte_more text from i begun below =
    let size : i + 1 - from ≡ (i - from) + 1 = omega (arith, begun) in
    let size_left = length-drop from text in
    let within : i - from < length (drop from text) = omega (arith, begun, below, size_left) in
    let place : from + (i - from) ≡ i = omega (arith, begun) in
    ap (λ k. take k (drop from text)) size ∙ take_more (drop from text) (i - from) 0 within
    ∙ ap (λ b. piece_between text from i ++ b ∷ []) (get_or-drop from text (i - from) 0 ∙ ap (λ k. get_or text k 0) place)

pub goes_on : (text : List ℕ) (n from i : ℕ) → from ≤ i → i < length text → get_or text i 0 ≢ 32 → PiecesSo text n from i → PiecesSo text n from (i + 1)
goes_on text n from i begun below other so_far =
    ap (λ p. first_wrong_piece n (pieces_from p (drop (i + 1) text))) (one_byte_more text from i begun below)
    ∙ sym (ap (first_wrong_piece n) (at_other (piece_between text from i) text i below other)) ∙ so_far

or_last : {X : Type 0} (o : Option X) → option_or o None ≡ o
or_last None = refl
or_last (Some x) = refl

pub last_piece : (text : List ℕ) (n from i : ℕ) → length text ≤ i → i ≤ length text → PiecesSo text n from i → wrong_piece n (piece_between text from (length text)) ≡ first_wrong_piece 1 (pieces_from [] text)
last_piece text n from i past within so_far =
    let ends : i ≡ length text = omega (arith, past, within) in
    sym (or_last (wrong_piece n (piece_between text from (length text)))) ∙ ap (λ k. option_or (wrong_piece n (piece_between text from k)) None) (sym ends)
    ∙ ap (λ rest. first_wrong_piece n (pieces_from (piece_between text from i) rest)) (sym (drop_all i text past)) ∙ so_far

pub goes_on_as : (text : List ℕ) (n m from f i : ℕ) → f ≡ from → m ≡ n → PiecesSo text n from i → PiecesSo text m f i
goes_on_as text n m from f i same alike so_far = ap₂ (λ x y. first_wrong_piece x (pieces_from (piece_between text y i) (drop i text))) alike same ∙ so_far
