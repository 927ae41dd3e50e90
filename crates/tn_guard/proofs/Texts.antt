-- What is written of the elements of a tuple or list, by their places.
use Rattle.std.proofs.Common.{◌≡◌, ◌∙◌, ap, sym, ℕ, ◌+◌, ◌≤◌, List, [], ◌∷◌, ◌++◌, Some, append_assoc, append-nil}
use Rattle.def_term.specs.Tree.{Tree, Trees, count}
use Rattle.def_term.specs.Text.{w, comma_list, each_after_comma}
use Rattle.def_spec.specs.Functions.{nth}
use Rattle.tn_text.specs.Writes.{Grows}
use Rattle.tn_guard.proofs.Places.{rest_from, rest_here, rest_past, rest_of_all}

pub grows_by : {a b : List ℕ} (x : List ℕ) → b ≡ a ++ x → Grows a b
grows_by x e = record { added = x; whole = e }

pub grows_same : {a b : List ℕ} → b ≡ a → Grows a b
grows_same {a} e = record { added = []; whole = e ∙ sym (append-nil a) }

-- the first of the texts
pub first_part : (ts : Trees) (t : Tree) (a b : List ℕ) → Some t ≡ nth ts 0 → b ≡ a ++ w t → b ++ each_after_comma (rest_from 1 ts) ≡ a ++ comma_list ts
first_part ts t a b here e =
    let rest = each_after_comma (rest_from 1 ts) in
    ap (λ o. o ++ rest) e ∙ append_assoc a (w t) rest ∙ ap (λ us. a ++ comma_list us) (sym (rest_here ts 0 t here) ∙ rest_of_all ts)

-- one more after a comma
pub next_part : (ts : Trees) (i : ℕ) (t : Tree) (a b d z : List ℕ) → Some t ≡ nth ts i
    → a ++ each_after_comma (rest_from i ts) ≡ z → b ≡ a ++ 44 ∷ [] → d ≡ b ++ w t → d ++ each_after_comma (rest_from (i + 1) ts) ≡ z
next_part ts i t a b d z here so_far comma text =
    let rest = each_after_comma (rest_from (i + 1) ts) in
    ap (λ o. o ++ rest) (text ∙ ap (λ o. o ++ w t) comma)
    ∙ append_assoc (a ++ 44 ∷ []) (w t) rest ∙ append_assoc a (44 ∷ []) (w t ++ rest)
    ∙ ap (λ us. a ++ each_after_comma us) (sym (rest_here ts i t here)) ∙ so_far

pub all_parts : (ts : Trees) (i : ℕ) (a z : List ℕ) → count ts ≤ i → a ++ each_after_comma (rest_from i ts) ≡ z → a ≡ z
all_parts ts i a z over so_far = sym (append-nil a) ∙ sym (ap (λ us. a ++ each_after_comma us) (rest_past ts i over)) ∙ so_far
