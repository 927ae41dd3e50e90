-- A step of taking the backslashes out.
use Rattle.std.proofs.Common.{◌≡◌, ℕ, ◌+◌, ◌<◌, ◌≤◌, List, [], ◌∷◌, ◌++◌, length, get_or, take, drop, Bool, true, false, ◌==◌, refl, ap, sym, ◌∙◌, append_assoc, append-nil}
use Rattle.std.proofs.lemmas.List.{drop_more, take_all, drop_all}
use Rattle.std.proofs.lemmas.Bool.{cond-true, cond-false, ne_eqb, eq-eqb}
use Rattle.def_text.specs.Scan.{unescape}

take_one : (e : Bool) (text out out' whole : List ℕ) (i : ℕ) → i < length text → out ++ unescape e (drop i text) ≡ whole → out' ≡ out ++ get_or text i 0 ∷ []
    → unescape e (get_or text i 0 ∷ drop (i + 1) text) ≡ get_or text i 0 ∷ unescape false (drop (i + 1) text) → out' ++ unescape false (drop (i + 1) text) ≡ whole
take_one e text out out' whole i below inv grown one =
    ap (λ xs. xs ++ unescape false (drop (i + 1) text)) grown
    ∙ append_assoc out (get_or text i 0 ∷ []) (unescape false (drop (i + 1) text))
    ∙ ap (λ xs. out ++ xs) (sym one ∙ sym (ap (unescape e) (drop_more text i 0 below)))
    ∙ inv

pub after_one : (text out out' whole : List ℕ) (i : ℕ) → i < length text → out ++ unescape true (drop i text) ≡ whole → out' ≡ out ++ get_or text i 0 ∷ [] → out' ++ unescape false (drop (i + 1) text) ≡ whole
after_one text out out' whole i below inv grown = take_one true text out out' whole i below inv grown refl

pub plain_one : (text out out' whole : List ℕ) (i : ℕ) → i < length text → out ++ unescape false (drop i text) ≡ whole → out' ≡ out ++ get_or text i 0 ∷ [] → (get_or text i 0 ≡ 92 → ⊥) → out' ++ unescape false (drop (i + 1) text) ≡ whole
plain_one text out out' whole i below inv grown other = take_one false text out out' whole i below inv grown (cond-false (get_or text i 0 == 92) _ _ (ne_eqb (get_or text i 0) 92 other))

pub marked : (text out whole : List ℕ) (i : ℕ) → i < length text → out ++ unescape false (drop i text) ≡ whole → get_or text i 0 ≡ 92 → out ++ unescape true (drop (i + 1) text) ≡ whole
marked text out whole i below inv is =
    ap (λ xs. out ++ xs) (sym (ap (unescape false) (drop_more text i 0 below) ∙ cond-true (get_or text i 0 == 92) _ _ (eq-eqb (get_or text i 0) 92 is))) ∙ inv

-- no backslash up to the end
pub plain_all : (text : List ℕ) (i : ℕ) → length text ≤ i → take i text ++ unescape false (drop i text) ≡ unescape false text → text ≡ unescape false text
plain_all text i over so_far = sym (append-nil text) ∙ ap (λ x. x ++ []) (sym (take_all i text over)) ∙ ap (λ x. take i text ++ unescape false x) (sym (drop_all i text over)) ∙ so_far
